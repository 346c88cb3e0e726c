use Rattle.std.proofs.Common.{ℕ, List, ◌≡◌, ◌≤◌, ◌++◌, drop, length, sym, ap, subst, ◌∙◌, arith}
use Rattle.std.proofs.lemmas.List.{length-append, length-drop, length-take-le}
use Rattle.ar_disks.specs.Lending.{refilled}
use Rattle.ar_disks.specs.Geometry.{block_len_of}
use Rattle.ar_book.specs.Tables.{Tables, free_groups, HasBlock}
use Rattle.ar_book.specs.Changes.{assigned}
use Rattle.ar_book.proofs.Homes.{home_slot, home_block}
use Rattle.ar_extents.proofs.Outcomes.{sound_done, broken_is}
use Rattle.ar_store.specs.Placing.{IsVacant}
use Rattle.ar_store.specs.Spaces.{store_in}
use Rattle.ar_store.proofs.Fills.{moved_stand, beside_then, beside_read, done_not_broken, same_free}
use Rattle.ar_store.proofs.Fields.{given_done}
use Rattle.ar_store.proofs.Overwriting.{all_within}
use Rattle.ar_store.proofs.Stays.{stays_then}
use Rattle.ar_store.proofs.Planned.{moved_by, moved_none}
use Rattle.ar_store.proofs.space.Space.move_block.Goals as goal

-- a block that is written over keeps its length
length-refilled : (block bytes : List ℕ) → length (refilled block bytes) ≡ length block
length-refilled block bytes =
    length-take-le (length block) (bytes ++ drop (length bytes) block)
    (omega (arith, length-append bytes (drop (length bytes) block), length-drop (length bytes) block))

pub read_part_at-requires : goal.read_part_at-requires
read_part_at-requires g c =
    let t = c.args.self.now.book in
    record {
      ready = c.requires.ready;
      slot = home_slot t c.requires.ready.space.tables c.args.key c.args.from c.requires.home;
      within = all_within _ (block_len_of c.args.self.now.disks.geometry)
          (ap length c.bytes_mut-bytes.ensures.value ∙ c.requires.whole);
    }

pub fill-requires : goal.fill-requires
fill-requires g c =
    let t = c.args.self.now.book in
    let new = c.read_part_at.new.self in
    let read = c.read_part_at.ensures in
    record {
      ready = read.stays.ready;
      block = subst (λ (x : Tables). HasBlock x c.args.key) (sym read.book)
          (home_block t c.args.key c.args.from c.requires.home);
      hole = subst (λ (x : Tables). IsVacant x c.args.to) (sym read.book) c.requires.hole;
      whole = c.read_part_at.auto.into ∙ ap length c.bytes_mut-bytes.ensures.value ∙ c.requires.whole
          ∙ ap block_len_of (sym read.stays.accessed.follows.geometry);
    }

pub returns-in-Done : goal.returns-in-Done
returns-in-Done g c =
    let s = c.args.self.now in
    let read = c.read_part_at.ensures in
    let mid = c.read_part_at.new.self in
    let fill = c.fill.ensures.puts in
    let new = c.fill.new.self in
    record {
      done = record {
        outcome = fill.outcome;
        moved = λ done.
            record { tables = fill.tables done ∙ ap (λ (x : Tables). assigned x c.args.key c.args.to) read.book };
        unmoved = λ broke. fill.unwritten broke ∙ read.book;
        stands = moved_stand (store_in s) (store_in mid) (store_in new) c.args.key c.args.from c.read_part_at.new.into
            c.requires.ready.space c.requires.home read.stays.accessed.follows fill.stays.accessed.follows read.stand
            (c.read_part_at.auto.into ∙ ap length c.bytes_mut-bytes.ensures.value ∙ c.requires.whole)
            (given_done c.read_part_at.result _ c.in-Done.is read.given)
            (λ sound. fill.here (fill.outcome ∙ sound_done new.disks.health sound)) fill.others;
        beside = beside_then s.disks mid.disks s.book mid.book (store_in new) c.args.to read.book
            read.stays.accessed.follows read.keeps c.fill.ensures.beside;
        plan = moved_by (store_in s) (store_in mid) new.disks c.args.key c.args.from c.args.to c.requires.home read.book
            read.stays.accessed.follows.geometry read.plan c.fill.ensures.writes.plan;
      };
      free = subst (λ (x : Tables). free_groups x ≤ free_groups new.book) read.book fill.free;
      stays = stays_then s mid new read.stays fill.stays;
      len = length-refilled c.args.block.now c.read_part_at.new.into;
    }

pub returns-in-Broken : goal.returns-in-Broken
returns-in-Broken g c =
    let read = c.read_part_at.ensures in
    let mid = c.read_part_at.new.self in
    record {
      done = record {
        outcome = sym c.in-Broken.is ∙ read.outcome;
        moved = λ done. absurd (done_not_broken (sym done));
        unmoved = λ _. read.book;
        stands = read.stand;
        beside = beside_read c.args.self.now.disks mid.disks c.args.self.now.book mid.book c.args.to read.book
            read.stays.accessed.follows read.keeps;
        plan = moved_none (store_in c.args.self.now) (store_in mid) c.args.key c.args.from c.args.to c.requires.home
            (broken_is mid.disks.health (sym c.in-Broken.is ∙ read.outcome)) read.plan;
      };
      free = same_free c.args.self.now.book mid.book read.book;
      stays = read.stays;
      len = length-refilled c.args.block.now c.read_part_at.new.into;
    }
