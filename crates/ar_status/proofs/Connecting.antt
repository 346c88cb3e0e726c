-- From a connection's clauses to what it has served.
use Rattle.std.proofs.Common.{◌≡◌, ◌∙◌, ℕ, Bool, List, [], ◌∷◌, ◌++◌, Option, Result, Ok, Err, OnOk, refl, sym, ap}
use Rattle.std.proofs.Common.{subst}
use Rattle.std.specs.declared.alloc.AllocError.{AllocError}
use Rattle.std.specs.List.{AllByRecursion}
use Rattle.std.specs.Io.KnownBytes.{Appends, Consumes}
use Rattle.http.specs.declared.request.Request.{Request}
use Rattle.http.specs.Request.{head_of}
use Rattle.http_uri.specs.Uri.{uri_path}
use Rattle.http_server.specs.declared.connection.Connection.{Connection}
use Rattle.http_server.specs.declared.response.Response.{Response}
use Rattle.http_server.specs.Connection.{config_of, history}
use Rattle.http_server.specs.Exchange.{Call, Calls, Chain}
use Rattle.http_server.specs.History.{History, IsDone, IsServed, new_history}
use Rattle.http_server.specs.Response.{fields_of}
use Rattle.http_server.proofs.Theorems.{always_served}
use Rattle.ar_status.specs.declared.serve.TheConstants.{CONFIG}
use Rattle.ar_status.specs.declared.status.ArrayStatus.{ArrayStatus}
use Rattle.ar_status.specs.Answers.{IsBodyOf, answer_for, code_of, fields_in, needs_picture}
use Rattle.ar_status.specs.Serving.{RespondsByLook, RespondsTo, ServesConnection, request_asks_us}

-- a request was answered by a look
pub by_look : {V S : Type 0} (shows : V → Bool → ArrayStatus → List ℕ → Type 0) (watched : V) (s : S)
    (name : Option (List ℕ)) (request : Request (List ℕ))
    (result : Result (Unit {0}) AllocError) (method path : List ℕ) (status : ArrayStatus) (picture : List ℕ)
    (r : Response) (draws is_ours : Bool)
    → is_ours ≡ request_asks_us name request → method ≡ (head_of request).method → path ≡ uri_path (head_of request).uri
    → draws ≡ needs_picture (answer_for is_ours method path) → shows watched draws status picture
    → OnOk result (r.status ≡ code_of (answer_for is_ours method path) status.health)
    → OnOk result (fields_of r ≡ fields_in (answer_for is_ours method path))
    → OnOk result (IsBodyOf (answer_for is_ours method path) status picture r.body.items)
    → OnOk result (RespondsByLook shows watched name request r × (s ≡ s))
by_look shows watched s name request (Ok done) method path status picture r draws is_ours ours asked at drawn shown code
    fields body =
    let P : Bool → List ℕ → List ℕ → Type 0 =
    λ o m p. shows watched (needs_picture (answer_for o m p)) status picture × RespondsTo o m p status picture r in
    let looked = subst (λ d. shows watched d status picture) drawn shown in
    let both : P is_ours method path = (looked, record { code = code; fields = fields; body = body }) in
    let all =
    subst (λ o. P o (head_of request).method (uri_path (head_of request).uri)) ours
    (subst (λ m. P is_ours m (uri_path (head_of request).uri)) asked (subst (P is_ours method) at both)) in
    (record { status = status; picture = picture; shown = all.0; responds = all.1 }, refl)
by_look shows watched s name request (Err fault) method path status picture r draws is_ours ours asked at drawn shown
    code fields body =
    tt

-- each call of a chain was answered by a look at the array of the first state
answered_all : {V S : Type 0} (shows : V → Bool → ArrayStatus → List ℕ → Type 0) (watched : S → V)
    (name : S → Option (List ℕ))
    (calls : List Call) (old new : S)
    → Chain (λ s request r next. RespondsByLook shows (watched s) (name s) request r × (next ≡ s)) old calls new
    → AllByRecursion (λ call. RespondsByLook shows (watched old) (name old) call.0 call.1) calls
answered_all shows watched name [] old new chain = tt
answered_all {S} shows watched name (call ∷ calls) old new chain =
    let P : S → Type 0 = λ s. AllByRecursion (λ c. RespondsByLook shows (watched s) (name s) c.0 c.1) calls in
    (chain.1.0, subst P chain.1.1 (answered_all shows watched name calls chain.0 new chain.2))

-- a new connection that is done has served
pub served_by_looks : {V S : Type 0} (shows : V → Bool → ArrayStatus → List ℕ → Type 0) (watched : S → V)
    (name : S → Option (List ℕ))
    (s t : S)
    (before after : Connection)
    (left left' held held' : Option (List ℕ))
    → config_of before ≡ CONFIG → history before ≡ new_history → config_of after ≡ config_of before
    → Calls (λ s request r next. RespondsByLook shows (watched s) (name s) request r × (next ≡ s)) s t
    (history before).calls
    (history after).calls
    → ((more : List ℕ) × Consumes left left' more × ((history after).received ≡ (history before).received ++ more))
    → ((more : List ℕ) × Appends held held' more × ((history after).sent ≡ (history before).sent ++ more))
    → IsDone (history after) → ServesConnection shows (watched s) (name s) left left' held held'
served_by_looks shows watched name s t before after left left' held held' config new same calls read written done =
    let All : List Call → Type 0 = AllByRecursion (λ call. RespondsByLook shows (watched s) (name s) call.0 call.1) in
    record {
      history = history after;
      served = subst (λ limits. ∥ IsServed limits (history after) ∥₁) (same ∙ config) (always_served after);
      done = done;
      answered =
          subst All (sym (calls.1 ∙ ap (λ (h : History). h.calls ++ calls.0) new))
          (answered_all shows watched name calls.0 s t calls.2);
      read = subst (Consumes left left') (sym (read.2 ∙ ap (λ (h : History). h.received ++ read.0) new)) read.1;
      written = subst (Appends held held') (sym (written.2 ∙ ap (λ (h : History). h.sent ++ written.0) new)) written.1;
    }
