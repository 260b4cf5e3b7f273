-- A request call in a run: it keeps the invariant, is never refused with 4 or 11, and says what the book holds.
use mathlib.Core.Path.{◌≡◌, refl, sym, ap, subst, ◌∙◌, subst₂}
use mathlib.Core.List.{List}
use mathlib.Core.Bool.{true}
use Prim.Native.Nat.{ℕ, ◌≤◌}
use native.Mathlib.Omega.{arith}
use lib.Dec.{leb}
use borrow.Author.Tests.{leb-true, leb-false}
use Rattle.flash.specs.Bytes.{Bytes}
use Rattle.flash.proofs.Cases.{on_test}
use Rattle.frame.specs.declared.Host.{Host}
use Rattle.frame.specs.declared.Edition.{Edition}
use Rattle.frame.specs.Frame.{host_max}
use Rattle.journal.specs.Replay.{Object, lookup}
use Rattle.journal.specs.Block.{Journal}
use Rattle.wire.specs.declared.Answer.{Answer}
use Rattle.wire.specs.declared.Answer.TheVariants.{Done, More, Refused}
use Rattle.wire.specs.declared.Refusal.{Refusal}
use Rattle.wire.specs.declared.Refusal.TheVariants as refusal
use Rattle.wire.specs.declared.Page.TheVariants.{Summary}
use Rattle.wire.specs.declared.Request.{Request}
use Rattle.wire.specs.declared.Request.TheVariants.{Put, Delete, Commit, Abort, Read, Log, Convert}
use Rattle.wire.specs.Message.{Parsed, parse}
use Rattle.std.specs.Prelude.{Some, None}
use Rattle.wire.proofs.Parsing.{put-parsed, delete-parsed, read-parsed}
use Rattle.board.proofs.Reading.{as_before}
use Rattle.board.specs.declared.Phase.{Phase}
use Rattle.board.specs.declared.Phase.TheVariants.{Unmounted, Idle, Busy}
use Rattle.board.specs.declared.Record.{Record}
use Rattle.board.specs.Record.{Out}
use Rattle.board.specs.Queue.{serve, request_on, Asking, asking, refuse_to, serve_parsed}
use Rattle.board.specs.Book.{Book, enter_request, enter_parsed}
use Rattle.board.specs.Claim.{Never, RequestSays, ReadSays, Track, track_parsed, track_request}
use Rattle.board.proofs.Invariant.{IdleBook, Inv}
use Rattle.board.proofs.Outcomes.{request_host, request-in}
use Rattle.board.proofs.Keeping.{on-phase}
use Rattle.board.proofs.Replies.{held-ready, read_says, log_says}
use Rattle.board.proofs.Serving.{entered, Served, Legal, served, tracks}
use Rattle.board.proofs.Converting.{convert-says}

abbrev pub RequestKeeps : ℕ → ℕ → Book → Track → Host → List ℕ → Out → Type 0
RequestKeeps N s b u h m o =
    Inv N s o.image o.board (enter_request b h m o.answer) (track_request s u b m o.answer) × Never refusal.ImageLength o × Never refusal.Stale o

-- what is had of a request: the invariant, and on an idle record and for a host in range what it says
abbrev pub Requested : ℕ → ℕ → List ℕ → Record → Book → Track → Host → List ℕ → List ℕ → Out → Type 0
Requested N s img r b u h m reply o =
    RequestKeeps N s b u h m o × (r.phase ≡ Idle → h.0 ≤ host_max → RequestSays r (parse m) reply o b)

entered-is : (b : Book) (h : Host) (m : List ℕ) (q : Request) (a : Answer) → parse m ≡ Some q → entered b h m q a ≡ enter_request b h m a
entered-is b h m q Done e = ap (λ (p : Parsed). enter_parsed b h m p Done) (sym e)
entered-is b h m q More e = ap (λ (p : Parsed). enter_parsed b h m p More) (sym e)
entered-is b h m q (Refused n) e = refl

tracks-is : (s : ℕ) (u : Track) (b : Book) (m : List ℕ) (q : Request) (a : Answer) → parse m ≡ Some q → tracks s u b q a ≡ track_request s u b m a
tracks-is s u b m q Done e = ap (track_parsed s u b) (sym e)
tracks-is s u b m q More e = ap (track_parsed s u b) (sym e)
tracks-is s u b m q (Refused n) e = refl

pub legal : (ed : Edition) (h : Host) (m : List ℕ) (q : Request) → h.0 ≤ host_max → Bytes m → parse m ≡ Some q → Legal ed h m q
legal ed h m (Put i) k b e = let g = put-parsed m i b e in (k, g.0, (g.1, g.2))
legal ed h m (Delete i) k b e = (k, delete-parsed m i e)
legal ed h m Commit k b e = tt
legal ed h m Abort k b e = tt
legal ed h m (Read i) k b e = tt
legal ed h m (Log p) k b e = tt
legal ed h m Convert k b e = tt

module _ {N : ℕ} {s : ℕ} {img : List ℕ} {r : Record} {b : Book} {u : Track} (v : Inv N s img r b u) (h : Host) (m reply : List ℕ) (by : Bytes m) where
  abbrev a : Asking
  a = asking N img r h m reply

  abbrev Is-had : Out → Type 0
  Is-had o = Requested N s img r b u h m reply o

  -- a refusal before the record is looked into
  turned_away : (n : Refusal) → (Refused n ≡ Refused refusal.ImageLength → ⊥) → (Refused n ≡ Refused refusal.Stale → ⊥)
      → (r.phase ≡ Idle → h.0 ≤ host_max → ⊥) → Is-had (refuse_to a n)
  turned_away n i c f = ((v, i, c), λ e k. absurd (f e k))

  idle_says : (y : IdleBook N s u img r b) (q : Request) → parse m ≡ Some q → RequestSays r (Some q) reply (serve a y.ready.journal q) b
  idle_says y (Put i) e = tt
  idle_says y (Delete i) e = tt
  idle_says y Commit e = tt
  idle_says y Abort e = tt
  idle_says y (Read i) e =
      subst (λ (os : List Object). ReadSays (serve a y.ready.journal (Read i)) (lookup i os)) y.objects
      (read_says v.sized y.ready h m reply i (read-parsed m i e))
  idle_says y (Log Summary) e = log_says v.sized y.ready h m reply b.objects y.objects
  idle_says y Convert e = convert-says v.sized y h m reply

  -- as the store before served it
  before : (y : IdleBook N s u img r b) → r.phase ≡ Idle → leb h.0 host_max ≡ true → request_on a ≡ serve_parsed a y.ready.journal (parse m)
  before y e t = as_before a y.ready.journal v.bytes v.sized.ok (leb-true h.0 host_max t) e (held-ready v.sized y.ready)

  on_idle : leb h.0 host_max ≡ true → r.phase ≡ Idle → IdleBook N s u img r b → Is-had (request_on a)
  on_idle t e y = go (parse m) refl
    where
      x : Journal
      x = y.ready.journal

      go : (p : Parsed) → parse m ≡ p → Is-had (request_on a)
      go None q =
          subst Is-had (sym (before y e t ∙ ap (serve_parsed a x) q)) (
            (v, λ c. (let w : ◌≡◌ {A = ℕ} 0 1 = cc in omega arith), λ c. (let w : ◌≡◌ {A = ℕ} 0 1 = cc in omega arith)),
            λ i j. subst (λ (p : Parsed). RequestSays r p reply (refuse_to a refusal.Malformed) b) (sym q) refl,
          )
      go (Some w) q =
          let o : Out = serve a y.ready.journal w in
          let z : Served N s b u h m w o = served u v.sized v.bytes y reply h (leb-true h.0 host_max t) m w
          (legal x.edition h m w (leb-true h.0 host_max t) by q) in
          subst Is-had (sym (before y e t ∙ ap (serve_parsed a x) q)) (
            (subst₂ (Inv N s o.image o.board) (entered-is b h m w o.answer q) (tracks-is s u b m w o.answer q) z.0, z.1, z.2),
            λ i j. subst (λ (p : Parsed). RequestSays r p reply o b) (sym q) (idle_says y w q),
          )

  in_range : leb h.0 host_max ≡ true → Is-had (request_on a)
  in_range t =
      on-phase v
      (λ e f n. subst Is-had (sym (request-in a v.sized.ok t e))
      (turned_away refusal.NoStore (λ c. let w : ◌≡◌ {A = ℕ} 0 1 = cc in omega arith) (λ c. let w : ◌≡◌ {A = ℕ} 0 1 = cc in omega arith)
      (λ i j. not_idle Unmounted e i (λ c. let w : ◌≡◌ {A = ℕ} 0 1 = cc in omega arith))))
      (λ e y. on_idle t e y)
      (λ g j. subst Is-had (sym (request-in a v.sized.ok t g.is))
      (turned_away refusal.Busy (λ c. let w : ◌≡◌ {A = ℕ} 0 1 = cc in omega arith) (λ c. let w : ◌≡◌ {A = ℕ} 0 1 = cc in omega arith)
      (λ i k. not_idle (Busy g.stage) g.is i (λ c. let w : ◌≡◌ {A = ℕ} 0 1 = cc in omega arith))))
    where
      not_idle : (p : Phase) → r.phase ≡ p → r.phase ≡ Idle → (p ≡ Idle → ⊥) → ⊥
      not_idle p d c f = f (sym d ∙ c)

  pub request_keeps : Is-had (request_on a)
  request_keeps =
      on_test (leb h.0 host_max) in_range
      (λ t. subst Is-had (sym (request_host a v.sized.ok t))
      (turned_away refusal.HostRange (λ c. let w : ◌≡◌ {A = ℕ} 0 1 = cc in omega arith) (λ c. let w : ◌≡◌ {A = ℕ} 0 1 = cc in omega arith)
      (λ i k. omega (arith, leb-false h.0 host_max t))))
