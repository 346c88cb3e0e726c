use Rattle.std.proofs.Common.{◌≡◌, ◌+◌, ◌-◌, ◌++◌, ◌∷◌, [], cond, drop, is_some, length, vec_len, Some, sym, ap, subst}
use Rattle.std.proofs.Common.{◌∙◌, rules, arith}
use Rattle.std.specs.Io.Buffered.{reader_buffer}
use Rattle.ar_language.specs.Lines.{part_fault, with_bad, IsPart}
use Rattle.ar_language.proofs.Parting.{part_taken, part_drained, fault_from}
use Rattle.ar_language.proofs.lines.take_part.Goals as goal

pub returns-in_err-add_part-clause-refused : goal.returns-in_err-add_part-clause-refused
returns-in_err-add_part-clause-refused g c =
    let line = c.args.line.now.items in
    let part = c.part_of-next.result.0.now in
    let next = c.part_of-next.result.1 in
    let kind = c.in_err-add_part.field-0.0 in
    let len : vec_len c.args.line.now ≡ length line = omega arith in
    let wrong = subst (λ n. part_fault (4096 - n) (with_bad part next) ≡ Some kind) len
    c.in_err-add_part.ensures.refused in
    let parts = subst (λ l. IsPart l part next) c.buffer.ensures c.part_of-next.ensures.parts in
    let from = fault_from line (reader_buffer c.args.source.now) part next kind parts c.requires.whole wrong in
    search rules

pub returns-clause-taken : goal.returns-clause-taken
returns-clause-taken g c =
    let line = c.args.line.now.items in
    let part = c.part_of-next.result.0.now in
    let next = c.part_of-next.result.1 in
    let buffered = reader_buffer c.args.source.now in
    let parts = subst (λ l. IsPart l part next) c.buffer.ensures c.part_of-next.ensures.parts in
    let ends : c.from.result ≡ cond (is_some next) 1 0 = search rules in
    let rest : reader_buffer c.consume.new.self ≡ drop (length part + cond (is_some next) 1 0) buffered =
    c.consume.ensures.buffer ∙ ap (λ n. drop (length part + n) buffered) ends in
    let taken = part_taken line buffered part (reader_buffer c.consume.new.self) next parts
    c.in_ok-add_part.ensures.ended rest in
    taken ∙ ap (λ l. l ++ cond (is_some next) (10 ∷ reader_buffer c.consume.new.self) [])
    (sym c.in_ok-add_part.ensures.taken)
    ∙ ap (λ b. c.add_part.new.line.items ++ cond b (10 ∷ reader_buffer c.consume.new.self) [])
    (sym c.is_some-has_end.ensures)

pub returns-clause-drained : goal.returns-clause-drained
returns-clause-drained g c =
    let part = c.part_of-next.result.0.now in
    let next = c.part_of-next.result.1 in
    let buffered = reader_buffer c.args.source.now in
    let parts = subst (λ l. IsPart l part next) c.buffer.ensures c.part_of-next.ensures.parts in
    let ends : c.from.result ≡ cond (is_some next) 1 0 = search rules in
    let rest : reader_buffer c.consume.new.self ≡ drop (length part + cond (is_some next) 1 0) buffered =
    c.consume.ensures.buffer ∙ ap (λ n. drop (length part + n) buffered) ends in
    λ none. part_drained buffered part (reader_buffer c.consume.new.self) next parts rest (sym c.is_some-has_end.ensures
    ∙ none)
