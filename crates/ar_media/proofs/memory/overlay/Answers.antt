use Rattle.std.proofs.Common.{◌≡◌, ◌≢◌, ◌+◌, ◌++◌, ℕ, List, min, length, drop, sym, ◌∙◌, ap, arith, length-append}
use Rattle.std.proofs.Common.{rules}
use Rattle.std.proofs.lemmas.List.{take_rest}
use Rattle.ar_media.specs.Calls.{padded}
use Rattle.ar_media.specs.CallLaws.{length-padded}
use Rattle.ar_media.proofs.Files.{overlaid_none, overlaid_some, drop_min}
use Rattle.ar_media.proofs.memory.overlay.Goals as goal

pub returns-then-is_empty : goal.returns-then-is_empty
returns-then-is_empty c =
    let none : length c.args.bytes.now ≡ 0 = search rules in
    let same : c.in_ok-same.same.items ≡ c.args.file.now = search rules in
    same ∙ sym (overlaid_none c.args.file.now c.args.at c.args.bytes.now none)

pub returns : goal.returns
returns c =
    let file = c.args.file.now in
    let bytes = c.args.bytes.now in
    let some : length bytes ≢ 0 = search rules in
    let front : c.extend_from_slice.new.self.items ≡ padded file c.args.at ++ bytes = search rules in
    let size : length c.extend_from_slice.new.self.items ≡ c.args.at + length bytes =
    omega (arith, ap length front, length-append (padded file c.args.at) bytes, length-padded file c.args.at) in
    let least : c.min-end.result ≡ min (length c.extend_from_slice.new.self.items) (length file) = search rules in
    let end : c.min-end.result ≡ min (c.args.at + length bytes) (length file) = omega arith in
    let rest : c.extend_from_slice-2.new.self.items ≡ c.extend_from_slice.new.self.items ++ drop c.min-end.result
    file = search (rules, take_rest) in
    rest
    ∙ ap (λ (l : List ℕ). l ++ drop c.min-end.result file) front
    ∙ ap (λ n. padded file c.args.at ++ bytes ++ drop n file) end
    ∙ ap (λ (l : List ℕ). padded file c.args.at ++ bytes ++ l) (drop_min (c.args.at + length bytes) file)
    ∙ sym (overlaid_some file c.args.at bytes some)
