use Rattle.std.proofs.Common.{refl, sym, subst, ◌∙◌}
use Rattle.ar_disks.specs.declared.address.Members.{Members}
use Rattle.ar_extents.specs.Follows.{Keeps}
use Rattle.ar_extents.specs.Groups.{IsOutside}
use Rattle.ar_store.proofs.Changes.{units_refl}
use Rattle.ar_store.proofs.Copied.{copies_done, free_leaves}
use Rattle.ar_store.proofs.space.Space.copy_blocks.Goals as goal

pub returns-clause-copies : goal.returns-clause-copies
returns-clause-copies g c =
    let s = c.args.self.now in
    let copied = c.copy_group.ensures in
    copies_done c.copy_group.result s.disks c.copy_group.new.disks s.book c.args.from c.args.to
    c.members-source.result c.members-target.result c.requires.ready.space c.requires.full c.requires.free
    c.members-source.ensures c.members-target.ensures copied.accessed copied.keeps copied.copied

pub returns-clause-keeps : goal.returns-clause-keeps
returns-clause-keeps g c =
    let s = c.args.self.now in
    let b = c.copy_group.new.disks in
    let copied = c.copy_group.ensures in
    record {
      book = refl;
      stands = (free_leaves s.disks b s.book c.args.to c.requires.ready.space c.requires.free copied.accessed
          (subst (λ (m : Members). Keeps (IsOutside m) s.disks b) c.members-target.ensures copied.keeps)).stand;
    }

pub returns-clause-stays : goal.returns-clause-stays
returns-clause-stays g c =
    let s = c.args.self.now in
    let b = c.copy_group.new.disks in
    let copied = c.copy_group.ensures in
    record {
      ready = record {
        space = (free_leaves s.disks b s.book c.args.to c.requires.ready.space c.requires.free copied.accessed
            (subst (λ (m : Members). Keeps (IsOutside m) s.disks b) c.members-target.ensures copied.keeps)).space;
        scratch = copied.scratch ∙ c.requires.ready.scratch ∙ sym copied.accessed.follows.geometry;
      };
      units = units_refl s.book;
      accessed = copied.accessed;
    }
