-- The function and the relations on command blocks agree.
use Rattle.std.proofs.Common.{◌≡◌, ◌≢◌, ◌<◌, ◌≤◌, ◌↔◌, ◌⊎◌, ◌∙◌, ℕ, Bool, true, false, cond, eqb, ◌&&◌, List, Result}
use Rattle.std.proofs.Common.{Ok, Err, refl, sym, subst, inl, inr}
use Rattle.std.specs.Prelude.{MatchResult}
use Rattle.std.proofs.lemmas.Bool.{true≢false, cases_eq, eq-eqb, cond-true, eqb-true, eqb-false, leb-true, leb-false}
use Rattle.std.proofs.lemmas.Bool.{ne_eqb, le-leb, lt-leb, cond-false, cond_both, and_parts, and_cases, and_left}
use Rattle.std.proofs.lemmas.Bool.{and_right}
use Rattle.ar_scsi.specs.declared.command.Command.{Command}
use Rattle.ar_scsi.specs.declared.command.Command.TheVariants.{TestReady, Inquiry, Capacity}
use Rattle.ar_scsi.specs.declared.sense.Sense.{Sense}
use Rattle.ar_scsi.specs.Block.{Says, Faults, MeansOneThing, test_unit_ready, inquiry, read_capacity_10}
use Rattle.ar_scsi.specs.Block.{read_capacity_10_pmi, read_10, write_10, read_16, write_16, unknown_code}
use Rattle.ar_scsi.specs.Block.{test_unit_ready_naca, inquiry_naca, inquiry_evpd, inquiry_page_code}
use Rattle.ar_scsi.specs.Block.{read_capacity_10_naca, read_capacity_10_address, read_10_naca, read_10_protect}
use Rattle.ar_scsi.specs.Block.{write_10_naca, write_10_protect, read_16_naca, read_16_protect, read_16_length}
use Rattle.ar_scsi.specs.Block.{write_16_naca, write_16_protect, write_16_length}
use Rattle.ar_scsi.specs.Field.{operation_code, naca, allocation_length, pmi, protect, logical_block_address_10}
use Rattle.ar_scsi.specs.Field.{transfer_length_16}
use Rattle.ar_scsi.specs.Reading.{reading, ReadingAgrees, where_valid, test_unit_ready_valid, inquiry_valid}
use Rattle.ar_scsi.specs.Reading.{read_capacity_10_valid, transfer_10_valid, transfer_16_valid}
use Rattle.ar_scsi.specs.Sense.{invalid_field_in_cdb}

-- a block that says a command reads as it
pub reading-says : (cdb : List ℕ) (c : Command) → Says cdb c → reading cdb ≡ Ok c
unfolding reading
reading-says cdb _ (test_unit_ready code naca_0) = rw (code, naca_0) refl
reading-says cdb _ (inquiry code naca_0 evpd_0 page_0) = rw (code, naca_0, evpd_0, page_0) refl
reading-says cdb _ (read_capacity_10 code naca_0 pmi_0 address_0) = rw (code, naca_0, pmi_0, address_0) refl
reading-says cdb _ (read_capacity_10_pmi code naca_0 pmi_1) = let set = ne_eqb _ _ pmi_1 in rw (code, naca_0, set) refl
reading-says cdb _ (read_10 code naca_0 protect_0) = rw (code, naca_0, protect_0) refl
reading-says cdb _ (write_10 code naca_0 protect_0) = rw (code, naca_0, protect_0) refl
reading-says cdb _ (read_16 code naca_0 protect_0 short) = let fits =
    le-leb _ _ short in rw (code, naca_0, protect_0, fits) refl
reading-says cdb _ (write_16 code naca_0 protect_0 short) = let fits =
    le-leb _ _ short in rw (code, naca_0, protect_0, fits) refl

-- a block that is refused reads as its fault
pub reading-faults : (cdb : List ℕ) (s : Sense) → Faults cdb s → reading cdb ≡ Err s
unfolding reading
reading-faults cdb _ (unknown_code code) =
    let a = ne_eqb _ _ code.not_test_unit_ready in
    let b = ne_eqb _ _ code.not_inquiry in
    let c = ne_eqb _ _ code.not_read_capacity_10 in
    let d = ne_eqb _ _ code.not_read_10 in
    let e = ne_eqb _ _ code.not_write_10 in
    let f = ne_eqb _ _ code.not_read_16 in
    let g = ne_eqb _ _ code.not_write_16 in
    rw (a, b, c, d, e, f, g) refl
reading-faults cdb _ (test_unit_ready_naca code set) = rw code (cond-false _ _ _ (ne_eqb _ _ set))
reading-faults cdb _ (inquiry_naca code set) = rw code (cond-false _ _ _ (and_left _ _ (ne_eqb _ _ set)))
reading-faults cdb _ (inquiry_evpd code set) =
    rw code (cond-false _ _ _ (and_right _ _ (and_left _ _ (ne_eqb _ _ set))))
reading-faults cdb _ (inquiry_page_code code set) =
    rw code (cond-false _ _ _ (and_right _ _ (and_right _ _ (ne_eqb _ _ set))))
reading-faults cdb _ (read_capacity_10_naca code set) = rw code (cond-false _ _ _ (and_left _ _ (ne_eqb _ _ set)))
reading-faults cdb _ (read_capacity_10_address code pmi_0 set) =
    rw (code, pmi_0) (cond-false _ _ _ (and_right _ _ (ne_eqb _ _ set)))
reading-faults cdb _ (read_10_naca code set) = rw code (cond-false _ _ _ (and_left _ _ (ne_eqb _ _ set)))
reading-faults cdb _ (read_10_protect code set) = rw code (cond-false _ _ _ (and_right _ _ (ne_eqb _ _ set)))
reading-faults cdb _ (write_10_naca code set) = rw code (cond-false _ _ _ (and_left _ _ (ne_eqb _ _ set)))
reading-faults cdb _ (write_10_protect code set) = rw code (cond-false _ _ _ (and_right _ _ (ne_eqb _ _ set)))
reading-faults cdb _ (read_16_naca code set) = rw code (cond-false _ _ _ (and_left _ _ (ne_eqb _ _ set)))
reading-faults cdb _ (read_16_protect code set) =
    rw code (cond-false _ _ _ (and_right _ _ (and_left _ _ (ne_eqb _ _ set))))
reading-faults cdb _ (read_16_length code long) =
    rw code (cond-false _ _ _ (and_right _ _ (and_right _ _ (lt-leb _ _ long))))
reading-faults cdb _ (write_16_naca code set) = rw code (cond-false _ _ _ (and_left _ _ (ne_eqb _ _ set)))
reading-faults cdb _ (write_16_protect code set) =
    rw code (cond-false _ _ _ (and_right _ _ (and_left _ _ (ne_eqb _ _ set))))
reading-faults cdb _ (write_16_length code long) =
    rw code (cond-false _ _ _ (and_right _ _ (and_right _ _ (lt-leb _ _ long))))

-- what the reading of a block stands for
abbrev Stands : List ℕ → Result Command Sense → Type 0
Stands cdb r = MatchResult r (Says cdb) (Faults cdb)

-- a block of a known code stands for its command or for an invalid field
valid_stands :
    (cdb : List ℕ) (valid : Bool) (command : Command) → (valid ≡ true → Says cdb command)
    → (valid ≡ false → Faults cdb invalid_field_in_cdb) → Stands cdb (where_valid valid command)
valid_stands cdb true command says faults = says refl
valid_stands cdb false command says faults = faults refl

-- a test of the operation code
by_code :
    (cdb : List ℕ) (a n : ℕ) (x y : Result Command Sense) → (a ≡ n → Stands cdb x) → (a ≢ n → Stands cdb y)
    → Stands cdb (cond (eqb a n) x y)
by_code cdb a n x y f g = cond_both (eqb a n) x y (Stands cdb) (λ e. f (eqb-true a n e)) (λ e. g (eqb-false a n e))

-- of two tests that don't both pass, one fails
either_fails : {X : Type 0} (x y : Bool) → (x && y) ≡ false → (x ≡ false → X) → (y ≡ false → X) → X
either_fails x y h f g = elim (and_cases x y h) [ inl e ↦ f e | inr e ↦ g e ]

test_unit_ready_stands : (cdb : List ℕ) → operation_code cdb ≡ 0x00
    → Stands cdb (where_valid (test_unit_ready_valid cdb) TestReady)
test_unit_ready_stands cdb code =
    valid_stands cdb (test_unit_ready_valid cdb) TestReady (λ e. test_unit_ready code (eqb-true _ _ e))
    (λ e. test_unit_ready_naca code (eqb-false _ _ e))

inquiry_stands :
    (cdb : List ℕ) → operation_code cdb ≡ 0x12
    → Stands cdb (where_valid (inquiry_valid cdb) (Inquiry (allocation_length cdb)))
inquiry_stands cdb code =
    valid_stands cdb (inquiry_valid cdb) (Inquiry (allocation_length cdb))
    (λ e. let p = and_parts _ _ e in let q = and_parts _ _ p.1 in
    inquiry code (eqb-true _ _ p.0) (eqb-true _ _ q.0) (eqb-true _ _ q.1))
    (λ e. either_fails _ _ e (λ f. inquiry_naca code (eqb-false _ _ f))
    (λ g. either_fails _ _ g (λ f. inquiry_evpd code (eqb-false _ _ f))
    (λ f. inquiry_page_code code (eqb-false _ _ f))))

-- what the address test of READ CAPACITY says
address_says :
    (cdb : List ℕ) (naca_0 : naca 9 cdb ≡ 0) (code : operation_code cdb ≡ 0x25)
    → (pmi cdb ≡ 0) ⊎ (pmi cdb ≢ 0)
    → (cond (eqb (pmi cdb) 0) (eqb (logical_block_address_10 cdb) 0) true ≡ true) → Says cdb Capacity
address_says cdb naca_0 code (inl pmi_0) e =
    read_capacity_10 code naca_0 pmi_0 (eqb-true _ _ (sym (cond-true _ _ _ (eq-eqb _ _ pmi_0)) ∙ e))
address_says cdb naca_0 code (inr pmi_1) e = read_capacity_10_pmi code naca_0 pmi_1

address_faults :
    (cdb : List ℕ) (code : operation_code cdb ≡ 0x25)
    → (pmi cdb ≡ 0) ⊎ (pmi cdb ≢ 0)
    → (cond (eqb (pmi cdb) 0) (eqb (logical_block_address_10 cdb) 0) true ≡ false) → Faults cdb invalid_field_in_cdb
address_faults cdb code (inl pmi_0) e =
    read_capacity_10_address code pmi_0 (eqb-false _ _ (sym (cond-true _ _ _ (eq-eqb _ _ pmi_0)) ∙ e))
address_faults cdb code (inr pmi_1) e = absurd (true≢false (sym (cond-false _ _ _ (ne_eqb _ _ pmi_1)) ∙ e))

read_capacity_10_stands : (cdb : List ℕ) → operation_code cdb ≡ 0x25
    → Stands cdb (where_valid (read_capacity_10_valid cdb) Capacity)
read_capacity_10_stands cdb code =
    valid_stands cdb (read_capacity_10_valid cdb) Capacity
    (λ e. let p = and_parts _ _ e in address_says cdb (eqb-true _ _ p.0) code (cases_eq _ _) p.1)
    (λ e. either_fails _ _ e (λ f. read_capacity_10_naca code (eqb-false _ _ f))
    (λ f. address_faults cdb code (cases_eq _ _) f))

-- a READ or WRITE of ten bytes, with its rules
transfer_10_stands :
    (cdb : List ℕ) (command : Command) → (naca 9 cdb ≡ 0 → protect cdb ≡ 0 → Says cdb command)
    → (naca 9 cdb ≢ 0 → Faults cdb invalid_field_in_cdb) → (protect cdb ≢ 0 → Faults cdb invalid_field_in_cdb)
    → Stands cdb (where_valid (transfer_10_valid cdb) command)
transfer_10_stands cdb command says bad_naca bad_protect =
    valid_stands cdb (transfer_10_valid cdb) command
    (λ e. let p = and_parts _ _ e in says (eqb-true _ _ p.0) (eqb-true _ _ p.1))
    (λ e. either_fails _ _ e (λ f. bad_naca (eqb-false _ _ f)) (λ f. bad_protect (eqb-false _ _ f)))

-- the same of sixteen bytes
transfer_16_stands :
    (cdb : List ℕ) (command : Command)
    → (naca 15 cdb ≡ 0 → protect cdb ≡ 0 → transfer_length_16 cdb ≤ 65535 → Says cdb command)
    → (naca 15 cdb ≢ 0 → Faults cdb invalid_field_in_cdb) → (protect cdb ≢ 0 → Faults cdb invalid_field_in_cdb)
    → (65535 < transfer_length_16 cdb → Faults cdb invalid_field_in_cdb)
    → Stands cdb (where_valid (transfer_16_valid cdb) command)
transfer_16_stands cdb command says bad_naca bad_protect bad_length =
    valid_stands cdb (transfer_16_valid cdb) command
    (λ e. let p = and_parts _ _ e in let q = and_parts _ _ p.1 in
    says (eqb-true _ _ p.0) (eqb-true _ _ q.0) (leb-true _ _ q.1))
    (λ e. either_fails _ _ e (λ f. bad_naca (eqb-false _ _ f))
    (λ g. either_fails _ _ g (λ f. bad_protect (eqb-false _ _ f)) (λ f. bad_length (leb-false _ _ f))))

-- a reading is what the block says, or its fault
pub reading_stands : (cdb : List ℕ) → Stands cdb (reading cdb)
unfolding reading
reading_stands cdb =
    by_code cdb (operation_code cdb) 0x00 _ _ (test_unit_ready_stands cdb) (λ a.
    by_code cdb (operation_code cdb) 0x12 _ _ (inquiry_stands cdb) (λ b.
    by_code cdb (operation_code cdb) 0x25 _ _ (read_capacity_10_stands cdb) (λ c.
    by_code cdb (operation_code cdb) 0x28 _ _
    (λ code. transfer_10_stands cdb _ (read_10 code) (read_10_naca code) (read_10_protect code)) (λ d.
    by_code cdb (operation_code cdb) 0x2A _ _
    (λ code. transfer_10_stands cdb _ (write_10 code) (write_10_naca code) (write_10_protect code)) (λ e.
    by_code cdb (operation_code cdb) 0x88 _ _
    (λ code. transfer_16_stands cdb _ (read_16 code) (read_16_naca code) (read_16_protect code) (read_16_length code))
    (λ f.
    by_code cdb (operation_code cdb) 0x8A _ _
    (λ code. transfer_16_stands cdb _ (write_16 code) (write_16_naca code) (write_16_protect code)
    (write_16_length code)) (λ g.
    unknown_code (record {
      not_test_unit_ready = a;
      not_inquiry = b;
      not_read_capacity_10 = c;
      not_read_10 = d;
      not_write_10 = e;
      not_read_16 = f;
      not_write_16 = g;
    }))))))))

-- what stands where the reading is known
pub says-reading : (cdb : List ℕ) (c : Command) → reading cdb ≡ Ok c → Says cdb c
says-reading cdb c e = subst (Stands cdb) e (reading_stands cdb)

pub faults-reading : (cdb : List ℕ) (s : Sense) → reading cdb ≡ Err s → Faults cdb s
faults-reading cdb s e = subst (Stands cdb) e (reading_stands cdb)

pub reading_agrees : (cdb : List ℕ) → ReadingAgrees cdb
reading_agrees cdb = record {
  says = λ c. (reading-says cdb c, says-reading cdb c);
  faults = λ s. (reading-faults cdb s, faults-reading cdb s);
}

-- something stands, whatever the reading is
something : (cdb : List ℕ) (r : Result Command Sense) → Stands cdb r
    → ((c : Command) × Says cdb c) ⊎ ((s : Sense) × Faults cdb s)
something cdb (Ok c) says = inl (c, says)
something cdb (Err s) faults = inr (s, faults)

pub means_one_thing : (cdb : List ℕ) → MeansOneThing cdb
means_one_thing cdb = record {
  something = something cdb (reading cdb) (reading_stands cdb);
  not_both = λ c s says faults. let e = reading-says cdb c says in let f = reading-faults cdb s faults in cc;
  one_command = λ c d says other. let e = reading-says cdb c says in let f = reading-says cdb d other in cc;
  one_sense = λ s t faults other. let e = reading-faults cdb s faults in let f = reading-faults cdb t other in cc;
}

-- what equals the reading of a block says as much
pub result_says : (cdb : List ℕ) (r : Result Command Sense) → r ≡ reading cdb → (c : Command) → (r ≡ Ok c) ↔ Says cdb c
result_says cdb r e c = (λ f. says-reading cdb c (sym e ∙ f), λ says. e ∙ reading-says cdb c says)

pub result_faults : (cdb : List ℕ) (r : Result Command Sense) → r ≡ reading cdb → (s : Sense)
    → (r ≡ Err s) ↔ Faults cdb s
result_faults cdb r e s = (λ f. faults-reading cdb s (sym e ∙ f), λ faults. e ∙ reading-faults cdb s faults)
