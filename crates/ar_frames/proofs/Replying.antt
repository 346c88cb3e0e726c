-- How the parts of a reply that were read one after the other join.
use Rattle.std.proofs.Common.{◌≡◌, ℕ, ◌+◌, ◌<◌, ◌≤◌, Bool, true, false, List, ◌++◌, sym, ap, subst, ◌∙◌, append_assoc}
use Rattle.std.proofs.Common.{length, length-append, arith, ◌⊎◌, inl, inr}
use Rattle.std.specs.Prelude.{Result, Ok, Err}
use Rattle.byteorder.specs.Endian.{big_number}
use Rattle.byteorder.specs.Numbers.{big_from-append}
use Rattle.ar_scsi.specs.declared.reply.Reply.{Reply}
use Rattle.ar_frames.specs.declared.client.AskFault.{AskFault}
use Rattle.ar_frames.specs.declared.client.AskFault.TheVariants as fault
use Rattle.ar_frames.specs.Stream.{SourceState, Reading}
use Rattle.ar_frames.specs.Frame.{IsReplyFrame, IsCutReply, IsCutFrame}
use Rattle.ar_frames.specs.Client.{ReadsOf, ReadsReply, IsHeldUp, IsBadReply, IsOthers, Judges}
use Rattle.ar_frames.proofs.Streams.{Reading-trans}
use Rattle.ar_frames.proofs.Frames.{number_front}

-- first bytes and then others
pub reads_of_front : (a b c : SourceState) (base front : List ℕ) (Is : List ℕ → Type 0) (f : Bool)
    → Reading a b front false
    → ReadsOf b c (λ body. Is ((base ++ front) ++ body)) f → ReadsOf a c (λ body. Is (base ++ body)) f
reads_of_front a b c base front Is f first rest = record {
  bytes = front ++ rest.bytes;
  are = subst Is (append_assoc base front rest.bytes) rest.are;
  read = Reading-trans a b c front rest.bytes f first rest.read;
}

-- the same for what is read of a reply
pub reads_front : (a b c : SourceState) (base front : List ℕ) (tag : ℕ) (answer : Result Reply AskFault)
    → Reading a b front false
    → ReadsReply (base ++ front) b c tag answer → ReadsReply base a c tag answer
reads_front a b c base front tag (Ok reply) first rest =
    reads_of_front a b c base front (IsReplyFrame tag reply) false first rest
reads_front a b c base front tag (Err fault.Read) first rest =
    reads_of_front a b c base front IsCutReply true first rest
reads_front a b c base front tag (Err fault.Write) first rest = absurd rest
reads_front a b c base front tag (Err fault.Cut) first rest =
    (reads_of_front a b c base front IsCutReply false first rest.0, rest.1)
reads_front a b c base front tag (Err fault.WrongTag) first rest =
    reads_of_front a b c base front (IsOthers tag) false first rest
reads_front a b c base front tag (Err fault.BadFrame) first rest =
    reads_of_front a b c base front IsBadReply false first rest
reads_front a b c base front tag (Err fault.NoMemory) first rest =
    reads_of_front a b c base front IsHeldUp false first rest

-- a cut frame of which N and more came
pub cut_after : (low high len : ℕ) (count head part : List ℕ) → length count ≡ 4 → big_number 4 count ≡ low + len
    → low + len ≤ high
    → length head + length part < low + len → IsCutFrame low high ((count ++ head) ++ part)
cut_after low high len count head part count_len count_is fits short =
    let n = number_front count head part count_len ∙ count_is in
    let all : length ((count ++ head) ++ part) ≡ 4 + (length head + length part) =
    length-append (count ++ head) part ∙ omega (arith, length-append count head, count_len) in
    inr (omega (arith, all), omega (arith, n), omega (arith, n, fits), omega (arith, n, all, short))

-- a whole reply as it was judged
pub judged : (a b : SourceState) (tag : ℕ) (count head body : List ℕ) (answer : Result Reply AskFault)
    → length count ≡ 4 → length head ≡ 10
    → big_number 4 count ≡ 10 + length body → length body ≤ 33553920 → Judges tag ((count ++ head) ++ body) answer
    → Reading a b body false
    → ReadsReply (count ++ head) a b tag answer
judged a b tag count head body (Ok reply) count_len head_len count_is fits judges read =
    record { bytes = body; are = judges; read = read }
judged a b tag count head body (Err fault.Read) count_len head_len count_is fits judges read = absurd judges
judged a b tag count head body (Err fault.Write) count_len head_len count_is fits judges read = absurd judges
judged a b tag count head body (Err fault.Cut) count_len head_len count_is fits judges read = absurd judges
judged a b tag count head body (Err fault.WrongTag) count_len head_len count_is fits judges read =
    record { bytes = body; are = judges; read = read }
judged a b tag count head body (Err fault.BadFrame) count_len head_len count_is fits judges read =
    let n = number_front count head body count_len ∙ count_is in
    let all : length ((count ++ head) ++ body) ≡ 4 + (10 + length body) =
    length-append (count ++ head) body ∙ omega (arith, length-append count head, count_len, head_len) in
    record {
      bytes = body;
      are = inr (record {
        low = omega (arith, n);
        high = omega (arith, n, fits);
        whole = all
            ∙ ap (λ (k : ℕ). 4 + k) (sym n);
        none = judges;
      });
      read = read;
    }
judged a b tag count head body (Err fault.NoMemory) count_len head_len count_is fits judges read = absurd judges

-- no memory, and N and ten bytes were read or the whole frame was
pub held_up : (count head body : List ℕ) (len : ℕ) → length count ≡ 4 → length head ≡ 10 → big_number 4 count ≡ 10 + len
    → len ≤ 33553920
    → 0 < len → (length body ≡ 0) ⊎ (length body ≡ len) → IsHeldUp ((count ++ head) ++ body)
held_up count head body len count_len head_len count_is fits some parts =
    let n = number_front count head body count_len ∙ count_is in
    let all : length ((count ++ head) ++ body) ≡ 4 + (10 + length body) =
    length-append (count ++ head) body ∙ omega (arith, length-append count head, count_len, head_len) in
    record {
      counted = omega (arith, all);
      low = omega (arith, n, some);
      high = omega (arith, n, fits);
      at = elim parts [ inl none ↦ inl (omega (arith, all, none)) | inr whole ↦ inr (omega (arith, n, all, whole)) ];
    }

-- a cut frame of which N came and less than what follows
pub cut_head : (low high len : ℕ) (count part : List ℕ) → length count ≡ 4 → big_number 4 count ≡ low + len
    → low + len ≤ high
    → length part < low + len → IsCutFrame low high (count ++ part)
cut_head low high len count part count_len count_is fits short =
    let n : big_number 4 (count ++ part) ≡ low + len =
    big_from-append 4 count part (omega (arith, count_len)) ∙ count_is in
    let all = length-append count part in
    inr (
      omega (arith, all, count_len),
      omega (arith, n),
      omega (arith, n, fits),
      omega (arith, n, all, count_len, short),
    )
