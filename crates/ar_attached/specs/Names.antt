-- Names as they are shown.
use Rattle.std.specs.Prelude.{ℕ, ◌&&◌, if◌then◌else◌, nat_lt}

-- a byte of a name as it is shown: a question mark, unless it is printable
abbrev pub shown_byte : ℕ → ℕ
shown_byte byte = if nat_lt 32 byte && nat_lt byte 127 then byte else 63
