-- Why the login's answer opens a session or ends it.
use Rattle.std.proofs.Common.{◌≡◌, ℕ, ◌+◌, ◌<◌, ◌≤◌, true, false, List, [], ◌∷◌, ◌++◌, refl, sym, ap, subst, ◌∙◌}
use Rattle.std.proofs.Common.{append-nil, take-append-drop, drop-cons, length, take, drop, slice_index, arith, inl, inr}
use Rattle.std.proofs.lemmas.Bool.{cases_lt}
use Rattle.std.proofs.lemmas.List.{drop_all}
use Rattle.std.specs.Io.KnownBytes.{IsAtEnd}
use Rattle.ar_disks.specs.declared.address.Host.{Host}
use Rattle.ar_frames.specs.declared.login.Admission.{Admission}
use Rattle.ar_frames.specs.declared.login.Admission.TheVariants.{Admitted, BadLogin, HostInUse}
use Rattle.ar_frames.specs.declared.login.LoginResult.{LoginResult}
use Rattle.ar_frames.specs.declared.login.LoginResult.TheVariants.{Admitted as LoginAdmitted, Ended as LoginEnded}
use Rattle.ar_frames.specs.declared.end.EndReason.TheVariants as reason
use Rattle.ar_frames.specs.declared.port.Login.TheVariants.{Taken, BadHost, InUse}
use Rattle.ar_frames.specs.Stream.{SourceState, SinkState, Reading}
use Rattle.ar_frames.specs.Conversation.{Commands, Conversation}
use Rattle.ar_frames.specs.Port.{Logins}
use Rattle.ar_frames.specs.Session.{silent, refused, in_use, admitted, Opening, cut, bad_host, host_in_use, taken}
use Rattle.ar_frames.specs.Session.{login_name, login_bytes, IsUnsent, Session}
use Rattle.ar_frames.specs.Login.{Names, ReportsAdmission, Enters, stage_of, greeting_of}
use Rattle.ar_frames.proofs.Streams.{Reading-same, Writing-none}

-- a login of the right name is that of the host in its last byte
pub login_is : (login : List ℕ) → length login ≡ 9 → take 8 login ≡ login_name
    → login_bytes (slice_index login 8) ≡ login
login_is login len name =
    let last : slice_index login 8 ∷ [] ≡ drop 8 login =
    sym (drop-cons login 8 0 (omega (arith, len))
    ∙ ap (λ (l : List ℕ). slice_index login 8 ∷ l) (drop_all 9 login (omega (arith, len)))) in
    ap (λ (l : List ℕ). l ++ (slice_index login 8 ∷ [])) (sym name) ∙ ap (λ (l : List ℕ). take 8 login ++ l) last
    ∙ take-append-drop 8 login

-- no frame came yet
pub no_frames : {P : Type 0} (commands : Commands P) (port : P) → Conversation commands port port [] [] 0
no_frames commands port = record {
  requests = [];
  replies = [];
  replied = refl;
  read_is = refl;
  answers_are = refl;
  frames_is = refl;
}

-- input ended inside the login
pub session_cut : {P : Type 0} (logins : Logins P) (commands : Commands P) (source source' : SourceState)
    (sink : SinkState) (port : P) (login : List ℕ)
    → length login < 9 → Reading source source' login false → IsAtEnd source'.left
    → Session logins commands source source' sink sink port port (record { frames = 0; reason = reason.Cut })
session_cut logins commands source source' sink port login short read end = record {
  stage = silent;
  login = login;
  greeting = [];
  mid = port;
  frames = [];
  answers = [];
  rest = [];
  opening = cut login short;
  conversation = no_frames commands port;
  closes = ((refl, refl), λ e. absurd (let no : silent ≡ admitted = e in cc));
  read = Reading-same source source' login (login ++ []) false (sym (append-nil login)) read;
  ended = end;
  written = Writing-none sink;
}

-- a read faulted inside the login
pub session_read : {P : Type 0} (logins : Logins P) (commands : Commands P) (source source' : SourceState)
    (sink : SinkState) (port : P) (login : List ℕ)
    → length login < 9 → Reading source source' login true
    → Session logins commands source source' sink sink port port (record { frames = 0; reason = reason.Read })
session_read logins commands source source' sink port login short read = record {
  stage = silent;
  login = login;
  greeting = [];
  mid = port;
  frames = [];
  answers = [];
  rest = [];
  opening = cut login short;
  conversation = no_frames commands port;
  closes = (refl, refl);
  read = Reading-same source source' login (login ++ []) true (sym (append-nil login)) read;
  ended = tt;
  written = Writing-none sink;
}

-- an answer to a login is due at each stage that an admission leads to
unsent_stage : (admission : Admission) → IsUnsent (stage_of admission) 0
unsent_stage (Admitted host) = omega arith
unsent_stage BadLogin = refl
unsent_stage HostInUse = refl

-- a whole login was answered, or its answer couldn't be written
pub reported_as : {P : Type 0} (logins : Logins P) (commands : Commands P) (source source' : SourceState)
    (sink sink' : SinkState) (port port' : P)
    (login : List ℕ) (admission : Admission) (entry : LoginResult) → Reading source source' login false
    → Opening logins port login (greeting_of admission ∷ []) (stage_of admission) port'
    → ((host : Host) → admission ≡ Admitted host → Names host login) → ReportsAdmission sink sink' admission entry
    → Enters logins commands source source' sink sink' port port' entry
unfolding no_frames
reported_as logins commands source source' sink sink' port port' login admission (LoginAdmitted host) read opening named
    tells = record {
      login = login;
      names = named host tells.0;
      opening = subst (λ (a : Admission). Opening logins port login (greeting_of a ∷ []) (stage_of a) port') tells.0
          opening;
      read = read;
      written = tells.1;
    }
reported_as logins commands source source' sink sink' port port' login admission
    (LoginEnded reason.BadLogin) read opening
    named tells = record {
      stage = refused;
      login = login;
      greeting = 0x01 ∷ [];
      mid = port';
      frames = [];
      answers = [];
      rest = [];
      opening = subst (λ (a : Admission). Opening logins port login (greeting_of a ∷ []) (stage_of a) port') tells.0
          opening;
      conversation = no_frames commands port';
      closes = (refl, refl, refl);
      read = Reading-same source source' login (login ++ []) false (sym (append-nil login)) read;
      ended = tt;
      written = tells.1;
    }
reported_as logins commands source source' sink sink' port port' login admission
    (LoginEnded reason.HostInUse) read opening
    named tells = record {
      stage = in_use;
      login = login;
      greeting = 0x01 ∷ [];
      mid = port';
      frames = [];
      answers = [];
      rest = [];
      opening = subst (λ (a : Admission). Opening logins port login (greeting_of a ∷ []) (stage_of a) port') tells.0
          opening;
      conversation = no_frames commands port';
      closes = (refl, refl, refl);
      read = Reading-same source source' login (login ++ []) false (sym (append-nil login)) read;
      ended = tt;
      written = tells.1;
    }
reported_as logins commands source source' sink sink' port port' login admission
    (LoginEnded reason.Write) read opening named
    tells = record {
      stage = stage_of admission;
      login = login;
      greeting = greeting_of admission ∷ [];
      mid = port';
      frames = [];
      answers = [];
      rest = [];
      opening = opening;
      conversation = no_frames commands port';
      closes = (unsent_stage admission, refl);
      read = Reading-same source source' login (login ++ []) false (sym (append-nil login)) read;
      ended = tt;
      written =
          let greeting : List ℕ = greeting_of admission ∷ [] in
          let whole : length (greeting ++ []) ≤ 0 + length greeting = omega (arith, ap length (append-nil greeting)) in
          record { part = record { n = 0; proper = omega arith; written = tells }; whole = whole };
    }
reported_as logins commands source source' sink sink' port port' login admission
    (LoginEnded reason.End) read opening named
    tells = absurd tells
reported_as logins commands source source' sink sink' port port' login admission
    (LoginEnded (reason.TooShort n)) read opening
    named tells = absurd tells
reported_as logins commands source source' sink sink' port port' login admission
    (LoginEnded (reason.TooLong n)) read opening
    named tells = absurd tells
reported_as logins commands source source' sink sink' port port' login admission
    (LoginEnded reason.Cut) read opening named
    tells = absurd tells
reported_as logins commands source source' sink sink' port port' login admission
    (LoginEnded reason.Read) read opening named
    tells = absurd tells
reported_as logins commands source source' sink sink' port port' login admission
    (LoginEnded reason.Bound) read opening named
    tells = absurd tells

-- what the port said of a login of the right name
pub opens_bad_host : {P : Type 0} (logins : Logins P) (port port' : P) (login : List ℕ) → length login ≡ 9
    → take 8 login ≡ login_name
    → 3 < slice_index login 8 → logins port (slice_index login 8) BadHost port'
    → Opening logins port login (0x01 ∷ []) refused port'
opens_bad_host logins port port' login len name above said =
    subst (λ (l : List ℕ). Opening logins port l (0x01 ∷ []) refused port') (login_is login len name)
    (bad_host (slice_index login 8) port' above said)

pub opens_in_use : {P : Type 0} (logins : Logins P) (port port' : P) (login : List ℕ) → length login ≡ 9
    → take 8 login ≡ login_name
    → slice_index login 8 ≤ 3 → logins port (slice_index login 8) InUse port'
    → Opening logins port login (0x01 ∷ []) in_use port'
opens_in_use logins port port' login len name below said =
    subst (λ (l : List ℕ). Opening logins port l (0x01 ∷ []) in_use port') (login_is login len name)
    (host_in_use (slice_index login 8) port' below said)

pub opens_taken : {P : Type 0} (logins : Logins P) (port port' : P) (login : List ℕ) (admission : Admission)
    (host : Host) → admission ≡ Admitted host
    → length login ≡ 9 → take 8 login ≡ login_name → slice_index login 8 ≤ 3
    → logins port (slice_index login 8) Taken port'
    → Opening logins port login (greeting_of admission ∷ []) (stage_of admission) port'
opens_taken logins port port' login admission host is len name below said =
    subst (λ (a : Admission). Opening logins port login (greeting_of a ∷ []) (stage_of a) port') (sym is)
    (subst (λ (l : List ℕ). Opening logins port l (0x00 ∷ []) admitted port') (login_is login len name)
    (taken (slice_index login 8) port' below said))

-- a number that isn't above three
pub at_most_three : (n : ℕ) → (3 < n → ⊥) → n ≤ 3
at_most_three n below = elim (cases_lt 3 n) [ inl above ↦ absurd (below above) | inr low ↦ omega (arith, low) ]
