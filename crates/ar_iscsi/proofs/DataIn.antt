-- Data-In PDUs, one after the other.
use Rattle.std.proofs.Common.{◌≡◌, ◌∙◌, ℕ, ◌+◌, ◌-◌, ◌<◌, ◌≤◌, List, [], ◌++◌, sym, ap, subst, append_assoc, append-nil}
use Rattle.std.proofs.Common.{length, take, drop, length-take-le, length-drop, arith}
use lib.Seq.{take-add}
use Rattle.std.specs.List.{slice_range}
use Rattle.ar_iscsi.specs.declared.response.SequenceNumbers.{SequenceNumbers}
use Rattle.ar_iscsi.specs.declared.response.TargetPdu.TheVariants as pdu
use Rattle.ar_iscsi.specs.Response.{target_pdu}
use Rattle.ar_iscsi.specs.Reply.{AreDataIn, none_in, more_in, PutsDataIn}

module _ (tag : ℕ) (numbers : SequenceNumbers) (most : ℕ) where
  -- none yet
  pub data_in_none : (carried old : List ℕ) → PutsDataIn tag numbers most (take 0 carried) 0 old old
  data_in_none carried old = record { bytes = []; appended = sym (append-nil old); are = none_in }

  -- one more, with the bytes from place `at` to `end`
  pub data_in_more : (carried old out out' : List ℕ) (at end count : ℕ)
      → PutsDataIn tag numbers most (take at carried) count old out
      → at < end → end ≤ length carried → end ≤ at + most
      → out' ≡ out ++ target_pdu (pdu.DataIn tag count at) numbers (slice_range carried at end)
      → PutsDataIn tag numbers most (take end carried) (count + 1) old out'
  data_in_more carried old out out' at end count puts some within short e =
      let piece : List ℕ = slice_range carried at end in
      let split : at + (end - at) ≡ end = omega arith in
      let joined : take at carried ++ piece ≡ take end carried =
      sym (take-add at (end - at) carried) ∙ ap (λ (n : ℕ). take n carried) split in
      let before : length (take at carried) ≡ at = length-take-le at carried (omega (arith, some, within)) in
      let size : length piece ≡ end - at =
      length-take-le (end - at) (drop at carried) (omega (arith, length-drop at carried, within)) in
      let more : AreDataIn tag numbers most (count + 1) (take at carried ++ piece)
      (puts.bytes ++ target_pdu (pdu.DataIn tag count (length (take at carried))) numbers piece) =
      more_in count (take at carried) puts.bytes piece puts.are (omega (arith, size, some))
      (omega (arith, size, short)) in
      record {
        bytes = puts.bytes ++ target_pdu (pdu.DataIn tag count at) numbers piece;
        appended = e ∙ ap (λ (l : List ℕ). l ++ target_pdu (pdu.DataIn tag count at) numbers piece) puts.appended
            ∙ append_assoc old puts.bytes (target_pdu (pdu.DataIn tag count at) numbers piece);
        are = subst (λ (l : List ℕ). AreDataIn tag numbers most (count + 1) l
            (puts.bytes ++ target_pdu (pdu.DataIn tag count at) numbers piece)) joined
            (subst (λ (n : ℕ). AreDataIn tag numbers most (count + 1) (take at carried ++ piece)
            (puts.bytes ++ target_pdu (pdu.DataIn tag count n) numbers piece)) before more);
      }
