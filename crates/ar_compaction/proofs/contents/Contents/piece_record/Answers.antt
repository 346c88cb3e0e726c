use Rattle.std.proofs.Common.{◌≡◌, ◌+◌, ◌-◌, ◌*◌, ◌∙◌, ℕ, List, take, drop, ap, subst, arith}
use Rattle.std.specs.Prelude.{IfOk}
use Rattle.ar_record.specs.Record.{RecordData}
use Rattle.ar_compaction.specs.Bytes.{bytes_of_sectors}
use Rattle.ar_compaction.specs.Checkpoint.{piece_len, piece_write}
use Rattle.ar_compaction.specs.Contents.{optional_record}
use Rattle.ar_compaction.specs.Replaying.{unit_address}
use Rattle.ar_compaction.proofs.Stepping.{piece_is}
use Rattle.ar_compaction.proofs.contents.Contents.piece_record.Goals as goal

pub returns : goal.returns
returns c =
    let unit = c.args.self.now in
    let lba : ℕ = c.args.piece * 128 in
    let count : ℕ = c.min-count.result in
    let part : List ℕ = take (lba * 512 + count * 512 - lba * 512) (drop (lba * 512) c.deref.result.now) in
    let many : count ≡ piece_len unit.base c.args.piece = omega (arith, c.min-count.ensures) in
    let width : lba * 512 + count * 512 - lba * 512 ≡ count * 512 = omega arith in
    let is : part ≡ bytes_of_sectors lba count unit.bytes.items =
    ap (λ (n : ℕ). take n (drop (lba * 512) c.deref.result.now)) width
    ∙ ap (λ (l : List ℕ). take (count * 512) (drop (lba * 512) l)) c.deref.ensures.value in
    let given : IfOk c.piece_write.result
    (λ found. optional_record found ≡ piece_write (unit_address unit.addr) lba count part) =
    c.piece_write.ensures in
    subst (λ (l : List RecordData). IfOk c.piece_write.result (λ found. optional_record found ≡ l))
    (piece_is (unit_address unit.addr) unit.base c.args.piece count unit.bytes.items part many is) given
