-- A connection's requests and their responses.
use Rattle.std.specs.Prelude.{◌≡◌, ℕ, Bool, List, Option}
use Rattle.std.specs.List.{AllByRecursion}
use Rattle.std.specs.Io.KnownBytes.{Appends, Consumes}
use Rattle.http.specs.declared.request.Request.{Request}
use Rattle.http.specs.Request.{head_of}
use Rattle.http_uri.specs.Uri.{uri_path}
use Rattle.http_server.specs.declared.response.Response.{Response}
use Rattle.http_server.specs.Response.{fields_of}
use Rattle.http_server.specs.History.{History, IsDone, IsServed}
use Rattle.ar_status.specs.declared.serve.TheConstants.{CONFIG}
use Rattle.ar_status.specs.declared.status.ArrayStatus.{ArrayStatus}
use Rattle.ar_status.specs.Hosts.{asks_us, host_in}
use Rattle.ar_status.specs.Answers.{IsBodyOf, answer_for, code_of, fields_in, needs_picture}

-- the response to a method at a path, for a status and a picture; `is_ours`: the request asks for this server
pub record RespondsTo (is_ours : Bool) (method path : List ℕ) (status : ArrayStatus) (picture : List ℕ)
    (r : Response) : Type 0 where
  pub code : r.status ≡ code_of (answer_for is_ours method path) status.health
  pub fields : fields_of r ≡ fields_in (answer_for is_ours method path)
  pub body : IsBodyOf (answer_for is_ours method path) status picture r.body.items

-- the request asks for this server
abbrev pub request_asks_us : Option (List ℕ) → Request (List ℕ) → Bool
request_asks_us name request = asks_us name (host_in (head_of request))

-- the response to a request, by some look that the array may show
pub record RespondsByLook {V : Type 0} (shows : V → Bool → ArrayStatus → List ℕ → Type 0) (watched : V)
    (name : Option (List ℕ)) (request : Request (List ℕ)) (r : Response) : Type 0 where
  pub status : ArrayStatus
  pub picture : List ℕ
  pub shown : shows watched
      (needs_picture
      (answer_for (request_asks_us name request) (head_of request).method (uri_path (head_of request).uri)))
      status picture
  pub responds : RespondsTo (request_asks_us name request) (head_of request).method (uri_path (head_of request).uri)
      status picture r

-- What was read was answered by what was written, as `http_server` says, and each request that was whole by a look.
pub record ServesConnection {V : Type 0} (shows : V → Bool → ArrayStatus → List ℕ → Type 0) (watched : V)
    (name : Option (List ℕ)) (left left' held held' : Option (List ℕ)) : Type 0 where
  pub history : History
  pub served : ∥ IsServed CONFIG history ∥₁
  pub done : IsDone history
  pub answered : AllByRecursion (λ call. RespondsByLook shows watched name call.0 call.1) history.calls
  pub read : Consumes left left' history.received
  pub written : Appends held held' history.sent
