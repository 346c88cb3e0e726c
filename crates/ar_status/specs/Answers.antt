-- What is answered to a method and a path.
use Rattle.std.specs.Prelude.{◌≡◌, ℕ, Bool, true, false, ◌||◌, if◌then◌else◌, List, [], ◌∷◌, ◌++◌, codes, bytes_eq}
use Rattle.std.specs.Prelude.{decimal}
use Rattle.std.specs.List.{join_with_byte}
use Rattle.http1.specs.Fields.{Header}
use Rattle.ar_status.specs.declared.answer.Answer.{Answer}
use Rattle.ar_status.specs.declared.answer.Answer.TheVariants as answers
use Rattle.ar_status.specs.declared.page.TheConstants.{PAGE}
use Rattle.ar_status.specs.declared.status.ArrayHealth.{ArrayHealth}
use Rattle.ar_status.specs.declared.status.ArrayHealth.TheVariants.{Whole, Out, Rebuilding, Broken}
use Rattle.ar_status.specs.declared.status.ArrayStatus.{ArrayStatus}

-- what is at a path
abbrev pub answer_at : List ℕ → Answer
answer_at path =
    if bytes_eq path (codes "/") then answers.Page else (
    if bytes_eq path (codes "/picture.svg") then answers.Picture else (
    if bytes_eq path (codes "/metrics") then answers.Metrics else (
    if bytes_eq path (codes "/status.json") then answers.Json else (
    if bytes_eq path (codes "/healthz") then answers.Serving else (
    if bytes_eq path (codes "/healthz/whole") then answers.Health else answers.NotFound)))))

-- The answer to a method and a path: HEAD has that of GET, and any other method none. Who asks for another server gets
-- none of them.
abbrev pub answer_for : Bool → List ℕ → List ℕ → Answer
answer_for is_ours method path =
    if is_ours then (
    if bytes_eq method (codes "GET") || bytes_eq method (codes "HEAD") then answer_at path else answers.NotAllowed)
    else answers.Misdirected

-- the picture has to be drawn
abbrev pub needs_picture : Answer → Bool
needs_picture answers.Picture = true
needs_picture answer = false

-- the inventory has to be made
abbrev pub needs_inventory : Answer → Bool
needs_inventory answers.Json = true
needs_inventory answer = false

-- all disks are present
abbrev pub all_present : ArrayHealth → Bool
all_present Whole = true
all_present health = false

-- the array has data
abbrev pub has_data : ArrayHealth → Bool
has_data Broken = false
has_data health = true

-- the status code
abbrev pub code_of : Answer → ArrayHealth → ℕ
code_of answers.Serving health = if has_data health then 200 else 503
code_of answers.Health health = if all_present health then 200 else 503
code_of answers.NotFound health = 404
code_of answers.NotAllowed health = 405
code_of answers.Misdirected health = 421
code_of answer health = 200

-- the media type
abbrev pub media_type_of : Answer → List ℕ
media_type_of answers.Page = codes "text/html; charset=utf-8"
media_type_of answers.Picture = codes "image/svg+xml"
media_type_of answers.Metrics = codes "text/plain; version=0.0.4; charset=utf-8"
media_type_of answers.Json = codes "application/json"
media_type_of answer = codes "text/plain; charset=utf-8"

-- where a method isn't allowed, those that are
abbrev pub allowed_in : Answer → List Header
allowed_in answers.NotAllowed = (codes "allow", codes "GET, HEAD") ∷ []
allowed_in answer = []

-- what tells a browser to take each response for what it says it is, and to give it to no page of another site
abbrev pub guards : List Header
guards =
    (codes "x-content-type-options", codes "nosniff")
    ∷ (codes "content-security-policy", codes "frame-ancestors 'none'")
    ∷ (codes "cross-origin-resource-policy", codes "same-origin") ∷ []

-- the header fields
abbrev pub fields_in : Answer → List Header
fields_in answer =
    (codes "content-type", media_type_of answer) ∷ (codes "cache-control", codes "no-store")
    ∷ (codes "connection", codes "close") ∷ (guards ++ allowed_in answer)

-- the health as a line, in the words of a script
abbrev pub health_words : ArrayHealth → List ℕ
health_words Whole = codes "whole\n"
health_words (Out disk) = codes "out " ++ decimal disk ++ 10 ∷ []
health_words (Rebuilding disk done) =
    join_with_byte 32 (codes "rebuilding" ∷ decimal disk ∷ decimal done ∷ []) ++ 10 ∷ []
health_words Broken = codes "broken\n"

-- whether the array serves, as a line
abbrev pub serving_words : ArrayHealth → List ℕ
serving_words Broken = codes "broken\n"
serving_words health = codes "serves\n"

-- The body. The texts of metrics and of JSON are not specified.
abbrev pub IsBodyOf : Answer → ArrayStatus → List ℕ → List ℕ → Type 0
IsBodyOf answers.Page status picture body = body ≡ PAGE.now
IsBodyOf answers.Picture status picture body = body ≡ picture
IsBodyOf answers.Serving status picture body = body ≡ serving_words status.health
IsBodyOf answers.Health status picture body = body ≡ health_words status.health
IsBodyOf answers.NotFound status picture body = body ≡ codes "not found\n"
IsBodyOf answers.NotAllowed status picture body = body ≡ codes "method not allowed\n"
IsBodyOf answers.Misdirected status picture body = body ≡ codes "misdirected request\n"
IsBodyOf answer status picture body = Unit {0}
