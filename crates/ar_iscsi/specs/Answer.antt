-- An answer in memory: bytes, and data that are cut into them.
use Rattle.std.specs.Prelude.{◌≡◌, ◌≤◌, ◌+◌, ◌-◌, ℕ, List, [], ◌∷◌, ◌++◌, take, drop, length}
use Rattle.ar_iscsi.specs.declared.answer.Cut.{Cut}
use Rattle.ar_iscsi.specs.declared.response.SequenceNumbers.{SequenceNumbers}
use Rattle.ar_iscsi.specs.declared.response.TargetPdu.{TargetPdu}
use Rattle.ar_iscsi.specs.Pdu.{padding_len}
use Rattle.ar_iscsi.specs.Response.{padding, target_header}

-- bytes with the data that are cut into them: at each place the next `len` ones, `front` bytes after the place before
abbrev pub woven : List Cut → List ℕ → List ℕ → List ℕ
woven [] bytes carried = bytes
woven (cut ∷ cuts) bytes carried =
    take cut.front bytes ++ (take cut.len carried ++ woven cuts (drop cut.front bytes) (drop cut.len carried))

-- the number of bytes before the last place
abbrev pub fronts : List Cut → ℕ
fronts [] = 0
fronts (cut ∷ cuts) = cut.front + fronts cuts

-- the number of data at all places
abbrev pub lens : List Cut → ℕ
lens [] = 0
lens (cut ∷ cuts) = cut.len + lens cuts

-- the places are among the bytes, and there are data for them
pub record AreCut (cuts : List Cut) (bytes carried : List ℕ) : Type 0 where
  pub fronts_fit : fronts cuts ≤ length bytes
  pub lens_fit : lens cuts ≤ length carried

-- a place for no data
abbrev pub no_cut : Cut
no_cut = record { front = 0; len = 0 }

-- a PDU was appended without its `len` bytes of data; these belong at `place`, and the data before them at `marked`
pub record PutsCut (which : TargetPdu) (numbers : SequenceNumbers) (len : ℕ) (bytes bytes' : List ℕ)
    (cuts cuts' : List Cut)
    (marked place : ℕ) : Type 0 where
  pub appended : bytes' ≡ bytes ++ (target_header which numbers len ++ padding (padding_len len))
  pub place_is : place ≡ length bytes + 48
  pub cut : cuts' ≡ cuts ++ record { front = place - marked; len = len } ∷ []
