use Rattle.std.proofs.Common.{◌≡◌, ◌∙◌, ℕ, false, List, sym, subst, inl, inr, arith}
use Rattle.std.proofs.lemmas.List.{with_items_is}
use Rattle.std.specs.Vec.{with_items}
use Rattle.ar_unit.specs.Plain.{state_of}
use Rattle.ar_unit.specs.Sectors.{cut}
use Rattle.ar_unit.specs.Unit.{Present, answer, write_answer}
use Rattle.ar_compaction.specs.Replaying.{ReplayState, unit_address, with_unit}
use Rattle.ar_compaction.proofs.Executing.{replay_of, command_absent, command_reported, command_other, command_write}
use Rattle.ar_compaction.proofs.Executing.{IsObeyed}
use Rattle.ar_compaction.proofs.replay.UnitReplay.command.Goals as goal
use Rattle.ar_compaction.proofs.replay.UnitReplay.command.Goals.{else-self-via-then-self+else-not-is_inquiry}
use Rattle.ar_compaction.proofs.replay.UnitReplay.command.Goals.{else-self-via-else-self}

pub returns-then-not-self : goal.returns-then-not-self
returns-then-not-self c =
    let r = c.self.inside in
    subst (λ (x : ReplayState). x ≡ with_unit x (answer x.unit c.args.cdb.now c.args.sent.now).state) c.self.view_is
    (command_absent (unit_address r.addr) r.present (cut 512 r.sectors r.bytes.items) r.attention c.args.cdb.now
    c.args.sent.now c.if-not-self.true)

pub returns-then-not-is_inquiry : goal.returns-then-not-is_inquiry
returns-then-not-is_inquiry c =
    let r = c.self.inside in
    let made : ReplayState =
    replay_of (unit_address r.addr) (state_of r.present (cut 512 r.sectors r.bytes.items) false) in
    subst (λ (x : ReplayState). made ≡ with_unit x (answer x.unit c.args.cdb.now c.args.sent.now).state) c.self.view_is
    (command_reported (unit_address r.addr) r.present (cut 512 r.sectors r.bytes.items) r.attention c.args.cdb.now
    c.args.sent.now c.if-not-self.false c.if-self.true (sym c.is_inquiry.ensures ∙ c.if-not-is_inquiry.true))

pub returns-in_default : goal.returns-in_default
returns-in_default c =
    let r = c.self.inside in
    let goes_on : IsObeyed r.attention c.args.cdb.now =
    elim c.else-self.branch [
      | else-self-via-then-self+else-not-is_inquiry w ↦ inr (sym w.is_inquiry.ensures ∙ w.if-not-is_inquiry.false)
      | else-self-via-else-self w ↦ inl w.if-self.false
    ] in
    subst (λ (x : ReplayState). x ≡ with_unit x (answer x.unit c.args.cdb.now c.args.sent.now).state) c.self.view_is
    (command_other (unit_address r.addr) r.present (cut 512 r.sectors r.bytes.items) r.attention c.args.cdb.now
    c.args.sent.now c.if-not-self.false goes_on (sym c.written_range.ensures ∙ c.in_default.is))

pub returns : goal.returns
returns c =
    let r = c.self.inside in
    let goes_on : IsObeyed r.attention c.args.cdb.now =
    elim c.else-self.branch [
      | else-self-via-then-self+else-not-is_inquiry w ↦ inr (sym w.is_inquiry.ensures ∙ w.if-not-is_inquiry.false)
      | else-self-via-else-self w ↦ inl w.if-self.false
    ] in
    let bytes : List ℕ = c.write.new.bytes in
    let kept : (with_items r.bytes bytes).items ≡ bytes = with_items_is r.bytes bytes
    (omega (arith, c.write.auto.bytes, c.deref_mut.ensures.len)) in
    let made : ReplayState =
    replay_of (unit_address r.addr) (state_of r.present (cut 512 r.sectors bytes) r.attention) in
    subst (λ (l : List ℕ). replay_of (unit_address r.addr) (state_of r.present (cut 512 r.sectors l) r.attention)
    ≡ with_unit c.args.self.now (answer c.args.self.now.unit c.args.cdb.now c.args.sent.now).state) (sym kept)
    (subst (λ (x : ReplayState). made ≡ with_unit x (answer x.unit c.args.cdb.now c.args.sent.now).state) c.self.view_is
    (command_write (unit_address r.addr) r.present (cut 512 r.sectors r.bytes.items)
    (cut 512 r.sectors bytes) r.attention
    c.args.cdb.now c.args.sent.now c.in-Some.lba c.in-Some.count c.if-not-self.false goes_on
    (sym c.written_range.ensures ∙ c.in-Some.is)
    (subst (λ (l : List ℕ). Present (cut 512 r.sectors bytes) r.attention
    ≡ (write_answer (cut 512 r.sectors l) r.attention c.in-Some.lba c.in-Some.count c.args.sent.now).state)
    c.deref_mut.ensures.value (c.write.ensures r.attention))))
