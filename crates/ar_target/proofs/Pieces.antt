-- Pieces of a range, one after another.
use Rattle.std.proofs.Common.{◌≡◌, ◌<◌, ◌+◌, ◌-◌, ◌∙◌, ℕ, true, false, [], ap, sym, subst}
use Rattle.ar_scsi.specs.declared.reply.Reply.{Reply}
use Rattle.ar_scsi.specs.Reply.{good}
use Rattle.ar_target.specs.Ranges.{DoesPiece, PiecesDone, DoesRange, one_piece, range_done, piece_stopped}
use Rattle.ar_target.specs.OwnCommands.{is_good}

-- a piece by its address and its length
piece_is :
    {P : Type 0} (does : DoesPiece P) (size : ℕ → ℕ → ℕ) (lba count done at len : ℕ) (old : P) (reply : Reply) (new : P)
    → at ≡ lba + done → len ≡ size at (count - done) → does old at len reply new
    → does old (lba + done) (size (lba + done) (count - done)) reply new
piece_is does size lba count done at len old reply new at_is len_is h =
    subst (λ (a : ℕ). does old a (size a (count - done)) reply new) at_is
    (subst (λ (n : ℕ). does old at n reply new) len_is h)

-- one more piece
pub pieces_more :
    {P : Type 0} (does : DoesPiece P) (size : ℕ → ℕ → ℕ) (lba count : ℕ) (old : P) (done at len : ℕ) (own_reply : Reply)
    (mid new : P)
    → PiecesDone does size lba count old done mid → at ≡ lba + done → len ≡ size at (count - done)
    → does mid at len own_reply new → is_good own_reply.status ≡ true
    → PiecesDone does size lba count old (done + len) new
pieces_more does size lba count old done at len own_reply mid new before at_is len_is piece is_done =
    subst (λ (n : ℕ). PiecesDone does size lba count old (done + n) new)
    (sym (len_is ∙ ap (λ (a : ℕ). size a (count - done)) at_is))
    (one_piece done own_reply mid new before
    (piece_is does size lba count done at len mid own_reply new at_is len_is piece)
    is_done)

-- a piece that stops the range
pub stopped_at :
    {P : Type 0} (does : DoesPiece P) (size : ℕ → ℕ → ℕ) (lba count : ℕ) (old : P) (done at len : ℕ) (reply : Reply)
    (mid new : P)
    → done < count → PiecesDone does size lba count old done mid → at ≡ lba + done → len ≡ size at (count - done)
    → does mid at len reply new → is_good reply.status ≡ false → DoesRange does size lba count old reply new
stopped_at does size lba count old done at len reply mid new some before at_is len_is piece fails =
    piece_stopped done reply mid new some before
    (piece_is does size lba count done at len mid reply new at_is len_is piece) fails

-- no piece is left
pub all_pieces :
    {P : Type 0} (does : DoesPiece P) (size : ℕ → ℕ → ℕ) (lba count : ℕ) (old : P) (done : ℕ) (new : P)
    → PiecesDone does size lba count old done new → done ≡ count → DoesRange does size lba count old (good []) new
all_pieces does size lba count old done new pieces all =
    range_done new (subst (λ (n : ℕ). PiecesDone does size lba count old n new) all pieces)
