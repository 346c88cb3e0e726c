-- What MODE SENSE returns.
use Rattle.std.specs.Prelude.{ℕ, ◌+◌, ◌-◌, ◌^◌, min, Bool, true, false, ◌&&◌, not, if◌then◌else◌, List, [], ◌∷◌, ◌++◌}
use Rattle.std.specs.Prelude.{replicate}
use Rattle.std.specs.Int.{w32, to_be_bytes}
use Rattle.ar_target.specs.declared.request.ModePages.{ModePages}
use Rattle.ar_target.specs.declared.request.ModePages.TheVariants.{ErrorRecovery, Caching, Control}
use Rattle.ar_target.specs.declared.request.ModePages.TheVariants.{InformationalExceptions, All}
use Rattle.ar_target.specs.declared.request.ModeSense.{ModeSense}

-- the length of the block descriptor, if it is returned (SBC-2, Short LBA mode parameter block descriptor)
abbrev pub descriptor_len : Bool → ℕ
descriptor_len has_descriptor = if has_descriptor then 8 else 0

-- the length of the pages: a page has two bytes before those that its PAGE LENGTH counts (SPC-3, Mode page and subpage
-- formats)
abbrev pub pages_len : ModePages → ℕ
pages_len ErrorRecovery = 12
pages_len Caching = 20
pages_len Control = 12
pages_len InformationalExceptions = 12
pages_len All = 56

-- The mode parameter header, by whether it is the long one, and the lengths of what follows (SPC-3, Mode parameter
-- header formats): MODE DATA LENGTH counts the bytes after itself; no medium type; the device-specific parameter has
-- DPOFUA, and not WP (SBC-2, Mode parameter header); then the length of the descriptor
abbrev pub mode_header : Bool → ℕ → ℕ → List ℕ
mode_header false descriptor pages = (3 + descriptor + pages) ∷ 0x00 ∷ 0x10 ∷ descriptor ∷ []
mode_header true descriptor pages =
    0x00 ∷ (6 + descriptor + pages) ∷ 0x00 ∷ 0x10 ∷ 0x00 ∷ 0x00 ∷ 0x00 ∷ descriptor ∷ []

-- the block descriptor of a unit whose last block is `last`, if it is returned: the number of blocks, as far as four
-- bytes hold it, and their length, 512 (SBC-2, Short LBA mode parameter block descriptor)
abbrev pub block_descriptors : Bool → ℕ → List ℕ
block_descriptors false last = []
block_descriptors true last = to_be_bytes w32 (min (last + 1) (2 ^ 32 - 1)) ++ (0x00 ∷ 0x00 ∷ 0x02 ∷ 0x00 ∷ [])

-- the Read-Write Error Recovery mode page (SBC-3, Read-Write Error Recovery mode page): all is 0, as the array recovers
-- by its own rules
abbrev pub error_recovery_page : List ℕ
error_recovery_page = 0x01 ∷ 0x0A ∷ replicate 10 0

-- the caching page (SBC-2, Caching mode page): WCE, bit 2 of byte 2, as it is given; it can't be saved; all else is 0
abbrev pub caching_page : Bool → List ℕ
caching_page write_cache = 0x08 ∷ 0x12 ∷ (if write_cache then 0x04 else 0x00) ∷ replicate 17 0

-- the Control mode page (SPC-3, Control mode page): GLTSD, bit 1 of byte 2, as it is given: nothing saves log
-- parameters; all else is 0: sense data of fixed format, one task set, commands in their order, no write protection
abbrev pub control_page : Bool → List ℕ
control_page no_log_saving = 0x0A ∷ 0x0A ∷ (if no_log_saving then 0x02 else 0x00) ∷ replicate 9 0

-- the Informational Exceptions Control mode page (SPC-4, Informational Exceptions Control mode page): DEXCPT, bit 3 of
-- byte 2, as it is given: no failures are foreseen
abbrev pub exceptions_page : Bool → List ℕ
exceptions_page disabled = 0x1C ∷ 0x0A ∷ (if disabled then 0x08 else 0x00) ∷ replicate 9 0

-- the pages that are asked for, by ascending PAGE CODE; where changeable values are asked for, no bit can be changed
abbrev pub mode_pages : ModePages → Bool → Bool → List ℕ
mode_pages ErrorRecovery write_back changeable = error_recovery_page
mode_pages Caching write_back changeable = caching_page (write_back && not changeable)
mode_pages Control write_back changeable = control_page (not changeable)
mode_pages InformationalExceptions write_back changeable = exceptions_page (not changeable)
mode_pages All write_back changeable =
    error_recovery_page
    ++ (caching_page (write_back && not changeable)
    ++ (control_page (not changeable) ++ exceptions_page (not changeable)))

-- the mode data: the header, the block descriptor, the pages
unfoldable pub mode_data : Bool → ModeSense → ℕ → List ℕ
mode_data write_back sense last =
    mode_header sense.is_long (descriptor_len sense.has_descriptor) (pages_len sense.pages)
    ++ (block_descriptors sense.has_descriptor last ++ mode_pages sense.pages write_back sense.changeable)
