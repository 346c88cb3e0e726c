-- Why no frame's bytes begin another's: N says where a frame ends, and each field stands at its place.
use Rattle.std.proofs.Common.{◌≡◌, ℕ, ◌+◌, ◌<◌, ◌≤◌, List, [], ◌∷◌, ◌++◌, refl, sym, ap, subst, ◌∙◌, append_assoc}
use Rattle.std.proofs.Common.{append-nil, ◌^◌, length, length-append, length-drop, length-take-le, take, drop}
use Rattle.std.proofs.Common.{drop-cons, slice_index, take-append-drop, arith, Some, None}
use Rattle.std.proofs.lemmas.List.{drop_all}
use Rattle.std.specs.Prelude.{Option}
use Rattle.byteorder.specs.Endian.{big_number, big_bytes}
use Rattle.byteorder.specs.Numbers.{big_from-append, big_from-take, big_number-reads_back}
use Rattle.ar_scsi.specs.declared.reply.Reply.{Reply}
use Rattle.ar_scsi.specs.declared.reply.Status.{Status}
use Rattle.ar_scsi.specs.declared.reply.Status.TheVariants.{Good, CheckCondition, Busy}
use Rattle.ar_frames.specs.declared.frame.Request.{Request}
use Rattle.ar_frames.specs.Client.{Parses}
use Rattle.ar_frames.specs.Frame.{IsFrame, IsReplyFrame, NoneBeginsAnother, NoReplyBeginsAnother, IsReply, Suits}
use Rattle.ar_frames.specs.Frame.{status_byte, sense_bytes}

-- two lists that are put together of parts of one length
pub split : (a b c d : List ℕ) → length a ≡ length c → a ++ b ≡ c ++ d → (a ≡ c) × (b ≡ d)
split [] b [] d len e = (refl, e)
split [] b (y ∷ ys) d len e = absurd (omega (arith, len))
split (x ∷ xs) b [] d len e = absurd (omega (arith, len))
split (x ∷ xs) b (y ∷ ys) d len e =
    let head : x ≡ y = cc in
    let tail : xs ++ b ≡ ys ++ d = cc in
    let short : length xs ≡ length ys = omega (arith, len) in
    let rest = split xs b ys d short tail in
    let front : xs ≡ ys = rest.0 in
    (cc, rest.1)

-- the same with more after the first
split_more : (a b c d more : List ℕ) → length a ≡ length c → (a ++ b) ++ more ≡ c ++ d → (a ≡ c) × (b ++ more ≡ d)
split_more a b c d more len e = split a (b ++ more) c d len (sym (append_assoc a b more) ∙ e)

-- a list and more is a list of its length
split_last : (a b more : List ℕ) → length a ≡ length b → a ++ more ≡ b → (a ≡ b) × (more ≡ [])
split_last a b more len e = split a more b [] len (e ∙ sym (append-nil b))

-- a request is its fields
same_request : (a b : Request) → a.tag ≡ b.tag → a.lun ≡ b.lun → a.cdb ≡ b.cdb → a.payload ≡ b.payload → a ≡ b
same_request a b t l c p =
    ap (λ (x : ℕ). let r : Request = record { tag = x; lun = a.lun; cdb = a.cdb; payload = a.payload } in r) t
    ∙ ap (λ (x : ℕ). let r : Request = record { tag = b.tag; lun = x; cdb = a.cdb; payload = a.payload } in r) l
    ∙ ap (λ (x : List ℕ). let r : Request = record { tag = b.tag; lun = b.lun; cdb = x; payload = a.payload } in r) c
    ∙ ap (λ (x : List ℕ). let r : Request = record { tag = b.tag; lun = b.lun; cdb = b.cdb; payload = x } in r) p

-- a reply is its fields
same_reply : (a b : Reply) → a.status ≡ b.status → a.sense ≡ b.sense → a.payload ≡ b.payload → a ≡ b
same_reply a b t s p =
    ap (λ (x : Status). let r : Reply = record { status = x; sense = a.sense; payload = a.payload } in r) t
    ∙ ap (λ (x : Option (List ℕ)). let r : Reply = record { status = b.status; sense = x; payload = a.payload } in r) s
    ∙ ap (λ (x : List ℕ). let r : Reply = record { status = b.status; sense = b.sense; payload = x } in r) p

-- requests
pub none_begins_another : NoneBeginsAnother
none_begins_another first second bytes more f s =
    let whole = ap (λ (l : List ℕ). l ++ more) (sym f.layout) ∙ s.layout in
    let a = split_more f.count _ s.count _ more (f.count_len ∙ sym s.count_len) whole in
    let b = split_more f.tag _ s.tag _ more (f.tag_len ∙ sym s.tag_len) a.1 in
    let c = split_more (first.lun ∷ []) _ (second.lun ∷ []) _ more refl b.1 in
    let d = split_more first.cdb _ second.cdb _ more (f.cdb_len ∙ sym s.cdb_len) c.1 in
    let counts : 25 + length first.payload ≡ 25 + length second.payload =
    sym f.count_is ∙ ap (big_number 4) a.0 ∙ s.count_is in
    let e = split_last first.payload second.payload more (omega (arith, counts)) d.1 in
    let lun : first.lun ≡ second.lun = let one : first.lun ∷ [] ≡ second.lun ∷ [] = c.0 in cc in
    (e.1, same_request first second (sym f.tag_is ∙ ap (big_number 8) b.0 ∙ s.tag_is) lun d.0 e.0)

-- one byte, one status
same_status : (a b : Status) → status_byte a ≡ status_byte b → a ≡ b
same_status Good Good e = refl
same_status Good CheckCondition e = absurd (omega (arith, e))
same_status Good Busy e = absurd (omega (arith, e))
same_status CheckCondition Good e = absurd (omega (arith, e))
same_status CheckCondition CheckCondition e = refl
same_status CheckCondition Busy e = absurd (omega (arith, e))
same_status Busy Good e = absurd (omega (arith, e))
same_status Busy CheckCondition e = absurd (omega (arith, e))
same_status Busy Busy e = refl

some_sense : (s t : Option (List ℕ)) → length (sense_bytes s) ≡ 18 → length (sense_bytes t) ≡ 18
    → sense_bytes s ≡ sense_bytes t → s ≡ t
some_sense None t h k e = absurd (omega (arith, h))
some_sense (Some x) None h k e = absurd (omega (arith, k))
some_sense (Some x) (Some y) h k e = ap (λ (l : List ℕ). Some l) e

-- the sense of a reply is known by its bytes
same_sense : (status : Status) (s t : Option (List ℕ)) (p q : List ℕ) → Suits status s p → Suits status t q
    → sense_bytes s ≡ sense_bytes t → s ≡ t
same_sense Good s t p q h k e = h.0 ∙ sym k.0
same_sense CheckCondition s t p q h k e = some_sense s t h.0 k.0 e
same_sense Busy s t p q h k e = h.0 ∙ sym k.0

-- replies
pub no_reply_begins_another : NoReplyBeginsAnother
no_reply_begins_another tag other first second bytes more f s =
    let whole = ap (λ (l : List ℕ). l ++ more) (sym f.layout) ∙ s.layout in
    let a = split_more f.count _ s.count _ more (f.count_len ∙ sym s.count_len) whole in
    let b = split_more f.name _ s.name _ more (f.name_len ∙ sym s.name_len) a.1 in
    let c = split_more (status_byte first.status ∷ [])
    (length (sense_bytes first.sense) ∷ (sense_bytes first.sense ++ first.payload))
    (status_byte second.status ∷ []) (length (sense_bytes second.sense) ∷ (sense_bytes second.sense ++ second.payload))
    more refl b.1 in
    let d = split_more (length (sense_bytes first.sense) ∷ []) (sense_bytes first.sense ++ first.payload)
    (length (sense_bytes second.sense) ∷ []) (sense_bytes second.sense ++ second.payload) more refl c.1 in
    let byte : status_byte first.status ≡ status_byte second.status =
    let one : status_byte first.status ∷ [] ≡ status_byte second.status ∷ [] = c.0 in cc in
    let lens : length (sense_bytes first.sense) ≡ length (sense_bytes second.sense) =
    let one : length (sense_bytes first.sense) ∷ [] ≡ length (sense_bytes second.sense) ∷ [] = d.0 in cc in
    let senses = split_more (sense_bytes first.sense) _ (sense_bytes second.sense) _ more lens d.1 in
    let counts : 10 + (length (sense_bytes first.sense) + length first.payload)
    ≡ 10 + (length (sense_bytes second.sense) + length second.payload) =
    sym f.count_is ∙ ap (big_number 4) a.0 ∙ s.count_is in
    let e = split_last first.payload second.payload more (omega (arith, counts, lens)) senses.1 in
    let status = same_status first.status second.status byte in
    let suits : Suits second.status first.sense first.payload =
    subst (λ (x : Status). Suits x first.sense first.payload) status f.suits in (
      e.1,
      sym f.name_is ∙ ap (big_number 8) b.0 ∙ s.name_is,
      same_reply first second status
          (same_sense second.status first.sense second.sense first.payload second.payload suits s.suits senses.0) e.0,
    )

-- N stands in front
pub number_front : (count rest more : List ℕ) → length count ≡ 4
    → big_number 4 ((count ++ rest) ++ more) ≡ big_number 4 count
number_front count rest more len =
    ap (big_number 4) (append_assoc count rest more) ∙ big_from-append 4 count (rest ++ more) (omega (arith, len))

-- the tag stands in front of what follows N
pub tag_front : (head : List ℕ) → big_number 8 (take 8 head) ≡ big_number 8 head
tag_front head = big_from-take 0 8 8 head (omega arith)

-- what follows N in a request: the tag, the LUN and the command block
pub head_parts : (head : List ℕ) → 9 ≤ length head → head ≡ take 8 head ++ (slice_index head 8 ∷ drop 9 head)
head_parts head h =
    sym (take-append-drop 8 head) ∙ ap (λ (l : List ℕ). take 8 head ++ l) (drop-cons head 8 0 (omega arith))

-- what follows N in a reply: the tag, the status and the length of the sense data
pub reply_parts : (head : List ℕ) → length head ≡ 10
    → head ≡ take 8 head ++ (slice_index head 8 ∷ slice_index head 9 ∷ [])
reply_parts head h =
    let last : drop 9 head ≡ slice_index head 9 ∷ [] =
    drop-cons head 9 0 (omega (arith, h))
    ∙ ap (λ (l : List ℕ). slice_index head 9 ∷ l) (drop_all 10 head (omega (arith, h))) in
    head_parts head (omega (arith, h)) ∙ ap (λ (l : List ℕ). take 8 head ++ (slice_index head 8 ∷ l)) last

-- a request frame of its parts as they were read
pub frame_read : (request : Request) (count head : List ℕ) → length count ≡ 4
    → big_number 4 count ≡ 25 + length request.payload → length head ≡ 25
    → length request.payload ≤ 33553920 → request.tag ≡ big_number 8 head → request.lun ≡ slice_index head 8
    → request.cdb ≡ drop 9 head
    → IsFrame request ((count ++ head) ++ request.payload)
frame_read request count head count_len count_is head_len fits tag_is lun_is cdb_is = record {
  count = count;
  tag = take 8 head;
  layout = append_assoc count head request.payload
      ∙ ap (λ (l : List ℕ). count ++ (l ++ request.payload)) (head_parts head (omega (arith, head_len)))
      ∙ ap (λ (l : List ℕ). count ++ l) (append_assoc (take 8 head) (slice_index head 8 ∷ drop 9 head) request.payload)
      ∙ ap (λ (x : ℕ). count ++ (take 8 head ++ (x ∷ (drop 9 head ++ request.payload)))) (sym lun_is)
      ∙ ap (λ (l : List ℕ). count ++ (take 8 head ++ (request.lun ∷ (l ++ request.payload)))) (sym cdb_is);
  count_len = count_len;
  count_is = count_is;
  tag_len = length-take-le 8 head (omega (arith, head_len));
  tag_is = tag_front head ∙ sym tag_is;
  cdb_len = ap length cdb_is ∙ omega (arith, length-drop 9 head, head_len);
  data_fits = fits;
}

-- a request frame as it is written
pub frame_written : (request : Request) → length request.payload ≤ 33553920 → request.tag < 2 ^ 64
    → length request.cdb ≡ 16
    → IsFrame request
    ((big_bytes 4 (25 + length request.payload) ++ (big_bytes 8 request.tag ++ (request.lun ∷ request.cdb)))
    ++ request.payload)
frame_written request fits tag_fits cdb_len = record {
  count = big_bytes 4 (25 + length request.payload);
  tag = big_bytes 8 request.tag;
  layout = append_assoc (big_bytes 4 (25 + length request.payload))
      (big_bytes 8 request.tag ++ (request.lun ∷ request.cdb)) request.payload
      ∙ ap (λ (l : List ℕ). big_bytes 4 (25 + length request.payload) ++ l)
      (append_assoc (big_bytes 8 request.tag) (request.lun ∷ request.cdb) request.payload);
  count_len = refl;
  count_is = big_number-reads_back 4 (25 + length request.payload) [] (omega arith);
  tag_len = refl;
  tag_is = big_number-reads_back 8 request.tag [] (omega arith);
  cdb_len = cdb_len;
  data_fits = fits;
}

-- a reply frame of its parts as they were read
pub reply_read : (tag : ℕ) (reply : Reply) (count head body : List ℕ) → length count ≡ 4
    → big_number 4 count ≡ 10 + length body → length head ≡ 10
    → big_number 8 head ≡ tag → Parses (slice_index head 8) (slice_index head 9) body reply
    → IsReplyFrame tag reply ((count ++ head) ++ body)
reply_read tag reply count head body count_len count_is head_len tag_is p = record {
  count = count;
  name = take 8 head;
  layout = append_assoc count head body
      ∙ ap (λ (l : List ℕ). count ++ (l ++ body)) (reply_parts head head_len)
      ∙ ap (λ (l : List ℕ). count ++ l) (append_assoc (take 8 head) (slice_index head 8 ∷ slice_index head 9 ∷ []) body)
      ∙ ap (λ (x : ℕ). count ++ (take 8 head ++ (x ∷ (slice_index head 9 ∷ body)))) p.status_is
      ∙ ap (λ (x : ℕ). count ++ (take 8 head ++ (status_byte reply.status ∷ (x ∷ body)))) p.sense_is
      ∙ ap (λ (l : List ℕ). count
      ++ (take 8 head ++ (status_byte reply.status ∷ (length (sense_bytes reply.sense) ∷ l)))) p.body_is;
  count_len = count_len;
  count_is = count_is
      ∙ ap (λ (n : ℕ). 10 + n) (ap length p.body_is ∙ length-append (sense_bytes reply.sense) reply.payload);
  name_len = length-take-le 8 head (omega (arith, head_len));
  name_is = tag_front head ∙ tag_is;
  suits = p.suits;
}

-- what a whole reply frame says, by its parts as they were read
pub reply_says : (tag : ℕ) (reply : Reply) (count head body : List ℕ) → length count ≡ 4 → length head ≡ 10
    → IsReplyFrame tag reply ((count ++ head) ++ body)
    → Parses (slice_index head 8) (slice_index head 9) body reply × (big_number 8 head ≡ tag)
reply_says tag reply count head body count_len head_len f =
    let whole = sym (append_assoc count head body) ∙ f.layout in
    let a = split count (head ++ body) f.count (f.name
    ++ (status_byte reply.status ∷ (length (sense_bytes reply.sense) ∷ (sense_bytes reply.sense ++ reply.payload))))
    (count_len ∙ sym f.count_len) whole in
    let parts = ap (λ (l : List ℕ). l ++ body) (sym (reply_parts head head_len)) ∙ a.1 in
    let front = sym (append_assoc (take 8 head) (slice_index head 8 ∷ slice_index head 9 ∷ []) body) ∙ parts in
    let b = split (take 8 head) (slice_index head 8 ∷ (slice_index head 9 ∷ body)) f.name
    (status_byte reply.status ∷ (length (sense_bytes reply.sense) ∷ (sense_bytes reply.sense ++ reply.payload)))
    (length-take-le 8 head (omega (arith, head_len)) ∙ sym f.name_len) front in
    let c = split (slice_index head 8 ∷ []) (slice_index head 9 ∷ body) (status_byte reply.status ∷ [])
    (length (sense_bytes reply.sense) ∷ (sense_bytes reply.sense ++ reply.payload)) refl b.1 in
    let d = split (slice_index head 9 ∷ []) body (length (sense_bytes reply.sense) ∷ [])
    (sense_bytes reply.sense ++ reply.payload) refl c.1 in
    let status : slice_index head 8 ≡ status_byte reply.status = ap (λ (l : List ℕ). slice_index l 0) c.0 in
    let sense : slice_index head 9 ≡ length (sense_bytes reply.sense) = ap (λ (l : List ℕ). slice_index l 0) d.0 in (
      record { suits = f.suits; status_is = status; sense_is = sense; body_is = d.1 },
      sym (tag_front head) ∙ ap (big_number 8) b.0 ∙ f.name_is,
    )

-- a reply without sense data as it is written
pub plain_written : (tag : ℕ) (reply : Reply) → tag < 2 ^ 64 → IsReply reply → length reply.payload ≤ 33553920
    → reply.sense ≡ None
    → IsReplyFrame tag reply
    ((big_bytes 4 (10 + length reply.payload) ++ (big_bytes 8 tag ++ (status_byte reply.status ∷ 0x00 ∷ [])))
    ++ reply.payload)
plain_written tag reply tag_fits suits fits none =
    let count = big_bytes 4 (10 + length reply.payload) in
    let name = big_bytes 8 tag in
    let bytes : [] ≡ sense_bytes reply.sense = ap sense_bytes (sym none) in
    record {
      count = count;
      name = name;
      layout = append_assoc count (name ++ (status_byte reply.status ∷ 0x00 ∷ [])) reply.payload
          ∙ ap (λ (l : List ℕ). count ++ l) (append_assoc name (status_byte reply.status ∷ 0x00 ∷ []) reply.payload)
          ∙ ap (λ (l : List ℕ). count ++ (name ++ (status_byte reply.status ∷ (length l ∷ (l ++ reply.payload)))))
          bytes;
      count_len = refl;
      count_is = big_number-reads_back 4 (10 + length reply.payload) [] (omega arith)
          ∙ (let none_long : length (sense_bytes reply.sense) ≡ 0 = ap length (sym bytes) in omega (arith, none_long));
      name_len = refl;
      name_is = big_number-reads_back 8 tag [] (omega arith);
      suits = suits;
    }

-- sense data stand with CHECK CONDITION and without a payload
pub sense_checks : (status : Status) (sense : Option (List ℕ)) (payload bytes : List ℕ) → sense ≡ Some bytes
    → Suits status sense payload
    → (status_byte status ≡ 0x02) × (payload ≡ []) × (length bytes ≡ 18)
sense_checks Good sense payload bytes e h = absurd (let no : Some bytes ≡ None = sym e ∙ h.0 in cc)
sense_checks CheckCondition sense payload bytes e h =
    (refl, h.1, ap (λ (s : Option (List ℕ)). length (sense_bytes s)) (sym e) ∙ h.0)
sense_checks Busy sense payload bytes e h = absurd (let no : Some bytes ≡ None = sym e ∙ h.0 in cc)

-- a payload is no longer than a frame's
pub payload_fits : (status : Status) (sense : Option (List ℕ)) (payload : List ℕ) → Suits status sense payload
    → length payload ≤ 33553920
payload_fits Good sense payload h = h.1
payload_fits CheckCondition sense payload h = let none : length payload ≡ 0 = ap length h.1 in omega (arith, none)
payload_fits Busy sense payload h = let none : length payload ≡ 0 = ap length h.1 in omega (arith, none)

-- a reply with sense data has no bytes
pub sense_alone : (reply : Reply) (sense : List ℕ) → IsReply reply → reply.sense ≡ Some sense → reply.payload ≡ []
sense_alone reply sense suits some = (sense_checks reply.status reply.sense reply.payload sense some suits).1

-- and is written so
pub sense_written : (tag : ℕ) (reply : Reply) (sense : List ℕ) → tag < 2 ^ 64 → IsReply reply → reply.sense ≡ Some sense
    → IsReplyFrame tag reply (big_bytes 4 28 ++ (big_bytes 8 tag ++ (0x02 ∷ 0x12 ∷ sense)))
sense_written tag reply sense tag_fits suits some =
    let facts = sense_checks reply.status reply.sense reply.payload sense some suits in
    let bytes : sense ≡ sense_bytes reply.sense = ap sense_bytes (sym some) in
    let len : 18 ≡ length (sense_bytes reply.sense) = sym facts.2 ∙ ap length bytes in
    let rest : sense ≡ sense_bytes reply.sense ++ reply.payload =
    bytes ∙ sym (append-nil (sense_bytes reply.sense))
    ∙ ap (λ (l : List ℕ). sense_bytes reply.sense ++ l) (sym facts.1) in
    let none : length reply.payload ≡ 0 = ap length facts.1 in
    let count : 28 ≡ 10 + (length (sense_bytes reply.sense) + length reply.payload) = omega (arith, len, none) in
    record {
      count = big_bytes 4 28;
      name = big_bytes 8 tag;
      layout = ap (λ (x : ℕ). big_bytes 4 28 ++ (big_bytes 8 tag ++ (x ∷ 0x12 ∷ sense))) (sym facts.0)
          ∙ ap (λ (x : ℕ). big_bytes 4 28 ++ (big_bytes 8 tag ++ (status_byte reply.status ∷ x ∷ sense))) len
          ∙ ap (λ (l : List ℕ). big_bytes 4 28
          ++ (big_bytes 8 tag ++ (status_byte reply.status ∷ (length (sense_bytes reply.sense) ∷ l)))) rest;
      count_len = refl;
      count_is = big_number-reads_back 4 28 [] (omega arith) ∙ count;
      name_len = refl;
      name_is = big_number-reads_back 8 tag [] (omega arith);
      suits = suits;
    }

-- the same, of the pieces that are written
pub plain_sent : (tag : ℕ) (reply : Reply) (head payload : List ℕ) → tag < 2 ^ 64 → IsReply reply → reply.sense ≡ None
    → payload ≡ reply.payload
    → head ≡ big_bytes 4 (10 + length payload) ++ (big_bytes 8 tag ++ (status_byte reply.status ∷ 0x00 ∷ []))
    → IsReplyFrame tag reply (head ++ payload)
plain_sent tag reply head payload tag_fits suits none same is =
    let whole = ap (λ (l : List ℕ). l ++ payload) is
    ∙ ap (λ (l : List ℕ). (big_bytes 4 (10 + length l) ++ (big_bytes 8 tag ++ (status_byte reply.status ∷ 0x00 ∷ [])))
    ++ l) same in
    subst (λ (l : List ℕ). IsReplyFrame tag reply l) (sym whole)
    (plain_written tag reply tag_fits suits (payload_fits reply.status reply.sense reply.payload suits) none)

-- a request, of the pieces that are written
pub request_sent : (request : Request) (head : List ℕ) → length request.payload ≤ 33553920 → request.tag < 2 ^ 64
    → length request.cdb ≡ 16
    → head ≡ big_bytes 4 (25 + length request.payload) ++ (big_bytes 8 request.tag ++ (request.lun ∷ request.cdb))
    → IsFrame request (head ++ request.payload)
request_sent request head fits tag_fits cdb_len is =
    subst (λ (l : List ℕ). IsFrame request (l ++ request.payload)) (sym is)
    (frame_written request fits tag_fits cdb_len)
