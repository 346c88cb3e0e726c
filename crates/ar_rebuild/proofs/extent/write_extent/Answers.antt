use Rattle.std.proofs.Common.{sym}
use Rattle.ar_rebuild.proofs.ExtentLemmas.{loose_done, free_done, rows_done, none_accessed, free_accessed}
use Rattle.ar_rebuild.proofs.ExtentLemmas.{member_accessed, stops_member, used_next}
use Rattle.ar_rebuild.proofs.extent.write_extent.Goals as goal

pub returns-in_default-clause-answer : goal.returns-in_default-clause-answer
returns-in_default-clause-answer g c =
    let s = c.args.space.now in
    loose_done s.disks s.book c.args.place c.requires.ready.space c.requires.rebuilding c.in_default.ensures.none

pub returns-in-Free-clause-answer : goal.returns-in-Free-clause-answer
returns-in-Free-clause-answer g c =
    let s = c.args.space.now in
    free_done s.disks s.book c.args.place c.members-members.result c.in-Some.group c.position_of-position.result
    c.requires.ready.space c.requires.rebuilding
    c.in-Some.ensures.there (sym c.in-Free.ensures) c.members-members.ensures c.position_of-position.ensures.below
    c.position_of-position.ensures.is

pub returns-in_default-class-clause-answer : goal.returns-in_default-class-clause-answer
returns-in_default-class-clause-answer g c =
    let s = c.args.space.now in
    rows_done c.write_rows.result c.class.result s.disks c.write_rows.new.set s.book c.args.place
    c.members-members.result
    c.in-Some.group
    c.position_of-position.result c.requires.ready.space c.requires.rebuilding c.in-Some.ensures.there
    c.class.ensures c.members-members.ensures
    c.position_of-position.ensures.below c.position_of-position.ensures.is c.write_rows.ensures.writes
    c.write_rows.ensures.answer

pub returns-in_default-clause-plan : goal.returns-in_default-clause-plan
returns-in_default-clause-plan g c =
    let s = c.args.space.now in
    none_accessed s.disks s.book c.args.place c.requires.rebuilding c.in_default.ensures.none

pub returns-in-Free-clause-plan : goal.returns-in-Free-clause-plan
returns-in-Free-clause-plan g c =
    let s = c.args.space.now in
    free_accessed s.disks s.book c.args.place c.members-members.result c.in-Some.group c.position_of-position.result
    c.requires.ready.space
    c.requires.rebuilding c.in-Some.ensures.there (sym c.in-Free.ensures) c.members-members.ensures
    c.position_of-position.ensures.below
    c.position_of-position.ensures.is

pub returns-in_default-class-clause-plan : goal.returns-in_default-class-clause-plan
returns-in_default-class-clause-plan g c =
    let s = c.args.space.now in
    member_accessed c.class.result s.disks c.write_rows.new.set s.book c.args.place c.members-members.result
    c.in-Some.group
    c.position_of-position.result
    c.requires.ready.space c.requires.rebuilding c.in-Some.ensures.there c.class.ensures c.members-members.ensures
    c.position_of-position.ensures.below c.position_of-position.ensures.is c.write_rows.ensures.plan
    (λ none. absurd
    (used_next c.class.result s.disks s.book c.args.place c.members-members.result c.in-Some.group
    c.position_of-position.result c.requires.rebuilding c.in-Some.ensures.there c.class.ensures
    c.in_default-class.not-Free c.members-members.ensures c.position_of-position.ensures.below
    c.position_of-position.ensures.is none))

pub returns-in_default-class-clause-stopped : goal.returns-in_default-class-clause-stopped
returns-in_default-class-clause-stopped g c = λ no.
    let s = c.args.space.now in
    stops_member c.class.result s.disks c.write_rows.new.set s.book c.args.place c.members-members.result
    c.in-Some.group
    c.position_of-position.result
    c.requires.ready.space c.requires.rebuilding c.in-Some.ensures.there c.class.ensures c.members-members.ensures
    c.position_of-position.ensures.below c.position_of-position.ensures.is (c.write_rows.ensures.stopped no)
