use Rattle.std.proofs.Common.{◌∙◌, ap}
use Rattle.http_uri.specs.Uri.{uri_path}
use Rattle.ar_status.specs.Hosts.{asks_us}
use Rattle.ar_status.specs.Answers.{needs_picture}
use Rattle.ar_status.proofs.Connecting.{by_look}
use Rattle.ar_status.proofs.serve.WatcherService.call.Goals as goal

pub returns-clause-ok : goal.returns-clause-ok
returns-clause-ok g c =
    by_look g.V.Watched.shows _ _ _ _ _ _ _ _ _ _ _ _ (c.asks_us-is_ours.ensures ∙ ap (asks_us _) c.host_of.ensures)
    (c.as_str-method.ensures.value ∙ c.method.ensures)
    (c.path-path.ensures.value ∙ ap uri_path c.uri.ensures)
    (c.needs_picture-draws.ensures ∙ ap needs_picture c.answer_to-answer.ensures)
    c.in_ok-look.ensures c.respond.ensures.code c.respond.ensures.fields c.respond.ensures.body
