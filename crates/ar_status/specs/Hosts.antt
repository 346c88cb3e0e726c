-- By which names a client may ask for the server.
use Rattle.std.specs.Prelude.{ℕ, Bool, true, false, ◌&&◌, ◌||◌, ◌==◌, List, [], ◌∷◌, Option, None, Some, codes}
use Rattle.std.specs.Prelude.{option_map, bytes_eq}
use Rattle.std.specs.Prelude.{drop, if◌then◌else◌, length, map, nat_lt, take}
use Rattle.std.specs.List.{list_all}
use Rattle.http.specs.declared.request.Parts.{Parts}
use Rattle.http_header.specs.HeaderMap.{get}
use Rattle.std.specs.Char.{is_ascii_digit, to_ascii_lowercase}

-- nothing, or a colon and digits
abbrev pub is_port : List ℕ → Bool
is_port [] = true
is_port (byte ∷ digits) = byte == 58 && list_all is_ascii_digit digits

-- a Host field is a name, in letters of either case, with or without a port
abbrev pub names_us : List ℕ → List ℕ → Bool
names_us host name =
    if nat_lt (length host) (length name) then false else (
    bytes_eq (map to_ascii_lowercase (take (length name) host)) (map to_ascii_lowercase name)
    && is_port (drop (length name) host))

-- the one of a name that may be given, if it is
abbrev pub names_given : List ℕ → Option (List ℕ) → Bool
names_given host None = false
names_given host (Some name) = names_us host name

-- A Host field is one of this machine's names, or the one that is given.
abbrev pub is_ours : Option (List ℕ) → List ℕ → Bool
is_ours given host =
    names_us host (codes "127.0.0.1") || (names_us host (codes "localhost") || (
    names_us host (codes "[::1]") || names_given host given))

-- a request's Host field
abbrev pub host_in : Parts → Option (List ℕ)
host_in head = option_map (λ value. value.bytes) (get head.headers (codes "host"))

-- that of a request's first Host field; a request without one, as HTTP/1.0 has it, names no other server
abbrev pub asks_us : Option (List ℕ) → Option (List ℕ) → Bool
asks_us given None = true
asks_us given (Some host) = is_ours given host
