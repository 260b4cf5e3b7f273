-- Demand 3 of a caller in C: board's claim, call by call.
use mathlib.Core.Path.{◌≡◌, refl, sym, ap, subst, ◌∙◌}
use mathlib.Core.List.{List, [], ◌∷◌}
use mathlib.Core.Bool.{false}
use Prim.Native.Nat.{ℕ, zero, suc, ◌+◌, ◌≤◌}
use native.Mathlib.Omega.{arith}
use lib.ListN.{length}
use Rattle.flash.specs.Flash.{Step, size_of, with_block}
use Rattle.wire.specs.declared.Answer.{Answer}
use Rattle.wire.specs.declared.Answer.TheVariants.{Done, More}
use Rattle.wire.specs.Answer.{edge_number}
use Rattle.board.specs.declared.Phase.{Phase}
use Rattle.board.specs.declared.Phase.TheVariants.{Unmounted, Idle, Busy}
use Rattle.board.specs.declared.Record.{Record}
use Rattle.board.specs.Record.{Out, answer_in, answer_of}
use Rattle.board.specs.Exec.{Call, request, step, mount, format, exec}
use Rattle.board.specs.Plan.{Follows}
use Rattle.board.specs.Table.{InJob}
use Rattle.board.specs.Demand1.{Short}
use Rattle.board.specs.Book.{UnderWay, nothing, committing, formatting, Book, first_book, enter_step, enter_call}
use Rattle.board.specs.Claim.{AgreesIn, Agrees, Finishes, Says, track_step, track, begun_by, ByteCall, Event, call, cut_erase, CutsErase, Restarts, Happens, Run}
use Rattle.board.specs.Claim.{Track, tracked, steps_on, formatted, Claim}
use Rattle.board.proofs.Claiming.{claim}
use Rattle.lent.specs.Layout.{record_size, record_in}
use Rattle.edge.specs.Edge.{Edge, edge_step, edge_format}
use Rattle.edge.specs.Calls.{Ask, plain, call_of, edge_call, edge_out, Happening, does, loses, cuts, Resumes, CutsIn, Happen}
use Rattle.edge.specs.Calls.{Ended, most_steps, Agree, Runs, step_calls, edge_formatted, EdgeClaim, steps_up_to, RunExact}
use Rattle.edge.proofs.Calls.{meets, exact, still_sized}
use Rattle.edge.proofs.RunCalls.{o, is_on, run-exact}

-- ---- board's claim from here on, for the lists of one kind

abbrev Holds : (List Event → Type 0) → ℕ → List ℕ → Record → Book → Track → Call → Type 0
Holds P N img r k u a = (es : List Event) → P es → Happens N (exec N) img r k es → Run N (exec N) img r k u a es

abbrev Any : List Event → Type 0
Any es = Unit {0}

-- it goes on past a call
after_call : (P : List Event → Type 0) (N : ℕ) (img : List ℕ) (r : Record) (k : Book) (u : Track) (a c : Call) → ByteCall c
    → ((es : List Event) → P (call c ∷ es)) → Holds P N img r k u a
    → let o : Out = exec N img r c in
    Holds Any N o.image o.board (enter_call k c o.answer) (track (size_of N img) u k c o.answer) (begun_by a c o.answer)
after_call P N img r k u a c y p q es _ h = (q (call c ∷ es) (p es) (y, h)).2

-- ---- a job under way is ended by one run

track-more : (u : Track) (w : UnderWay) → track_step u w More ≡ u
track-more u nothing = refl
track-more u (committing h) = refl
track-more u formatting = refl

agrees-idle : (N : ℕ) (a : Call) (u : Track) (img : List ℕ) (r : Record) (k : Book) → r.phase ≡ Idle → Agrees N (exec N) a u img r k
    → AgreesIn N (exec N) a u Idle img r k
agrees-idle N a u img r k i h = subst (λ (p : Phase). AgreesIn N (exec N) a u p img r k) i h

short-most : (N s : ℕ) (plan : List Step) (a : Call) → Short N s plan a → length plan ≤ most_steps N s a
short-most N s plan (request h m reply) x = x
short-most N s plan step x = x
short-most N s plan mount x = let y = x.0 in let z = x.1 in omega arith
short-most N s plan format x = x

ends : (N n : ℕ) (plan : List Step) (img b : List ℕ) (k : Book) (u : Track) (a : Call) (last : Record) → length b ≡ record_size
    → Follows N (exec N) img (record_in b) plan last → last.phase ≡ Idle → length plan ≤ n → answer_of (record_in b) ≡ More
    → Holds Any N img (record_in b) k u a → Ended N (track_step u k.under Done) (enter_step k Done) (steps_up_to N n img b)
ends N n [] img b k u a last l f i h m q =
    let d : More ≡ Done = sym m ∙ ap answer_of f ∙ ap answer_in i in let z : ◌≡◌ {A = ℕ} 0 1 = cc in absurd (omega arith)
ends N zero (x ∷ xs) img b k u a last l f i h m q = absurd (omega arith)
ends N (suc n) (x ∷ []) img b k u a last l (w, (next, g, f)) i h m q =
    let z = meets N img b l (plain step) in
    let p : (o N img b l).board.phase ≡ Idle = ap (λ (y : Out). y.board.phase) g ∙ ap (λ (y : Record). y.phase) f ∙ i in
    let d : (o N img b l).answer ≡ Done = ap (λ (y : Out). y.answer) g ∙ ap answer_of f ∙ ap answer_in i in
    let t = (q (call step ∷ []) tt (tt, tt)).1 in
    let v =
    agrees-idle N a _ _ _ _ p
    (subst (λ (y : Answer). Agrees N (exec N) a (track_step u k.under y) (o N img b l).image (o N img b l).board (enter_step k y)) d t) in
    subst (Ended N (track_step u k.under Done) (enter_step k Done)) (sym (is_on N img b l n Done d)) (
      refl,
      ap (λ (y : Record). y.phase) z.back ∙ p,
      subst (λ (y : Record). AgreesIn N (exec N) a (track_step u k.under Done) Idle (o N img b l).image y (enter_step k Done)) (sym z.back) v,
    )
ends N (suc n) (x ∷ y ∷ ys) img b k u a last l (_, (next, g, f)) i h m q =
    let z = meets N img b l (plain step) in
    let s : Out = exec N img (record_in b) step in
    let d : s.answer ≡ More = ap (λ (w : Out). w.answer) g ∙ f.0 in
    let v = after_call Any N img (record_in b) k u a step tt (λ _. tt) q in
    let v' : Holds Any N s.image s.board k u a =
    subst (λ (x : Track). Holds Any N s.image s.board k x a) (track-more u k.under)
    (subst (λ (w : Answer). Holds Any N s.image s.board (enter_step k w) (track_step u k.under w) a) d v) in
    let w : Follows N (exec N) s.image s.board (y ∷ ys) last = subst (λ (w : Out). Follows N (exec N) w.image w.board (y ∷ ys) last) (sym g) f in
    subst (Ended N (track_step u k.under Done) (enter_step k Done)) (sym (is_on N img b l n More d))
    (ends N n (y ∷ ys) s.image z.after k u a last z.size
    (subst (λ (r : Record). Follows N (exec N) s.image r (y ∷ ys) last) (sym z.back) w) i (omega arith)
    (ap answer_of z.back ∙ w.0)
    (subst (λ (r : Record). Holds Any N s.image r k u a) (sym z.back) v'))

agree : (N : ℕ) (a : Call) (u : Track) (img b : List ℕ) (k : Book) → length b ≡ record_size → Holds Any N img (record_in b) k u a
    → Agrees N (exec N) a u img (record_in b) k → Agree N a u img b k
unfolding RunExact
agree N a u img b k l q = by (record_in b).phase refl
  where
    by : (p : Phase) → (record_in b).phase ≡ p → AgreesIn N (exec N) a u (record_in b).phase img (record_in b) k → Agree N a u img b k
    by Unmounted e h =
        record {
          idle = λ i. let d : Unmounted ≡ Idle = sym e ∙ i in let z : ◌≡◌ {A = ℕ} 0 1 = cc in absurd (omega arith);
          in_job = λ j. absurd (subst InJob e j);
        }
    by Idle e h = record { idle = λ i. agrees-idle N a u img (record_in b) k e h; in_job = λ j. absurd (subst InJob e j) }
    by (Busy s) e h =
        let f : Finishes N (exec N) a img (record_in b) = subst (λ (p : Phase). AgreesIn N (exec N) a u p img (record_in b) k) e h in
        let n = most_steps N (size_of N img) a in
        record {
          idle = λ i. let d : Busy s ≡ Idle = sym e ∙ i in let z : ◌≡◌ {A = ℕ} 0 1 = cc in absurd (omega arith);
          in_job = λ j.
              subst (Ended N (track_step u k.under Done) (enter_step k Done)) (sym (run-exact N img b n 0 l))
              (ends N n f.work.steps img b k u a f.work.last l f.follows f.rests
              (short-most N (size_of N img) f.work.steps a f.short) (ap answer_in e) q);
        }

-- ---- what can happen

-- a mount and a format take no record
happens_any : (N : ℕ) (img : List ℕ) (q r : Record) (k : Book) (es : List Event) → Restarts es → Happens N (exec N) img q k es
    → Happens N (exec N) img r k es
happens_any N img q r k [] h x = x
happens_any N img q r k (call (request g m reply) ∷ es) h x = absurd h
happens_any N img q r k (call step ∷ es) h x = absurd h
happens_any N img q r k (call mount ∷ es) h x = x
happens_any N img q r k (call format ∷ es) h x = x
happens_any N img q r k (cut_erase j new p ∷ es) h x = absurd h

run_any : (N : ℕ) (img : List ℕ) (q r : Record) (k : Book) (u : Track) (a : Call) (es : List Event) → Restarts es
    → Run N (exec N) img q k u a es → Run N (exec N) img r k u a es
run_any N img q r k u a [] h x = x
run_any N img q r k u a (call (request g m reply) ∷ es) h x = absurd h
run_any N img q r k u a (call step ∷ es) h x = absurd h
run_any N img q r k u a (call mount ∷ es) h x = x
run_any N img q r k u a (call format ∷ es) h x = x
run_any N img q r k u a (cut_erase j new p ∷ es) h x = absurd h

cuts-erase : (N : ℕ) (img b : List ℕ) (k : Book) (j : ℕ) (new : List ℕ) → length b ≡ record_size → CutsIn N img b k j new
    → CutsErase N (exec N) img (record_in b) k j new
cuts-erase N img b k j new l h =
    record {
      in_job = h.in_job;
      no_format = h.no_format;
      there = h.there;
      erases = sym (ap (λ (e : Edge). e.image) (meets N img b l (plain step)).is) ∙ h.erases;
      raised = h.raised;
    }

-- ---- what the calls say

-- the lists of this kind have those that begin as this one does
abbrev Opens : (List Event → Type 0) → List Happening → Type 0
Opens P [] = Unit {0}
Opens P (does c ∷ es) = (xs : List Event) → P (call (call_of c) ∷ xs)
Opens P (loses d ∷ es) = (xs : List Event) → Restarts xs → P xs
Opens P (cuts j new d ∷ es) = (xs : List Event) → P (cut_erase j new (record_in d) ∷ xs)

opens_any : (es : List Happening) → Opens Any es
opens_any [] = tt
opens_any (does c ∷ es) = λ xs. tt
opens_any (loses d ∷ es) = λ xs h. tt
opens_any (cuts j new d ∷ es) = λ xs. tt

opens_restarts : (es : List Happening) → Resumes es → Opens Restarts es
opens_restarts [] h = tt
opens_restarts (does c ∷ es) h = λ xs. h
opens_restarts (loses d ∷ es) h = absurd h
opens_restarts (cuts j new d ∷ es) h = absurd h

runs : (P : List Event → Type 0) (N : ℕ) (img b : List ℕ) (k : Book) (u : Track) (a : Call) (es : List Happening) → length b ≡ record_size
    → Opens P es → Holds P N img (record_in b) k u a → Happen N img b k es → Runs N img b k u a es
runs P N img b k u a [] l p q h = tt
runs P N img b k u a (does c ∷ es) l p q h =
    let e : Edge = edge_call N img b c in
    let z = still_sized N img b l c in
    let back : exec N img (record_in b) (call_of c) ≡ edge_out N img b c = sym (exact N img b l c) in
    let x = q (call (call_of c) ∷ []) (p []) (h.0, tt) in
    let v =
    subst
    (λ (o : Out). Holds Any N o.image o.board (enter_call k (call_of c) o.answer) (track (size_of N img) u k (call_of c) o.answer)
    (begun_by a (call_of c) o.answer))
    back (after_call P N img (record_in b) k u a (call_of c) h.0 p q) in (
      subst (Says N img (record_in b) k u (call_of c)) back x.0,
      agree N _ _ e.image e.board _ z v
          (subst (λ (o : Out). Agrees N (exec N) (begun_by a (call_of c) o.answer) (track (size_of N img) u k (call_of c) o.answer) o.image o.board
          (enter_call k (call_of c) o.answer)) back x.1),
      runs Any N e.image e.board _ _ _ es z (opens_any es) v h.1,
    )
runs P N img b k u a (loses d ∷ es) l p q h =
    runs Restarts N img d k u a es h.0 (opens_restarts es h.1)
    (λ xs r y. run_any N img (record_in b) (record_in d) k u a xs r (q xs (p xs r) (happens_any N img (record_in d) (record_in b) k xs r y))) h.2
runs P N img b k u a (cuts j new d ∷ es) l p q h =
    runs Restarts N (with_block (size_of N img) j new img) d k u a es h.0 (opens_restarts es h.2)
    (λ xs r y. q (cut_erase j new (record_in d) ∷ xs) (p xs) (cuts-erase N img b k j new l h.1, r, y)) h.3

-- ---- a finished format

record Same (e : Edge) (o : Out) : Type 0 where
  answer : e.answer ≡ edge_number o.answer
  image : e.image ≡ o.image
  board : record_in e.board ≡ o.board
  size : length e.board ≡ record_size

same-call : (N : ℕ) (img b : List ℕ) → length b ≡ record_size → (c : Ask) → Same (edge_call N img b c) (exec N img (record_in b) (call_of c))
same-call N img b l c =
    let m = meets N img b l c in
    record {
      answer = ap (λ (e : Edge). e.answer) m.is;
      image = ap (λ (e : Edge). e.image) m.is;
      board = ap (λ (e : Edge). record_in e.board) m.is ∙ m.back;
      size = still_sized N img b l c;
    }

same-steps : (N n : ℕ) (e : Edge) (o : Out) → Same e o → Same (step_calls N n e) (steps_on (exec N) n o)
same-steps N zero e o s = s
same-steps N (suc n) e o s =
    same-steps N n (edge_step N e.image e.board) (exec N o.image o.board step)
    (subst (Same (edge_step N e.image e.board)) (λ i. exec N (s.image i) (s.board i) step)
    (same-call N e.image e.board s.size (plain step)))

pub edge-claim : EdgeClaim
unfolding EdgeClaim Claim
edge-claim N img b y a l =
    let fresh : Track = tracked false false in
    let e : Edge = edge_formatted N img b in
    let o : Out = formatted N (exec N) img (record_in b) in
    let x = claim N img (record_in b) y a in
    let s : Same e o = same-steps N (N + 10) (edge_format N img b) (exec N img (record_in b) format) (same-call N img b l (plain format)) in
    let g : (P : List ℕ → Record → Type 0) → P o.image o.board → P e.image (record_in e.board) =
    λ P h. subst (λ (q : Record). P e.image q) (sym s.board) (subst (λ (i : List ℕ). P i o.board) (sym s.image) h) in
    let v : Holds Any N e.image (record_in e.board) first_book fresh format = g (λ i q. Holds Any N i q first_book fresh format) (λ es _. x.3 es) in (
      s.answer ∙ ap edge_number x.0,
      ap (λ (q : Record). q.phase) s.board ∙ x.1,
      agree N format fresh e.image e.board first_book s.size v (g (λ i q. Agrees N (exec N) format fresh i q first_book) x.2),
      λ es. runs Any N e.image e.board first_book fresh format es s.size (opens_any es) v,
    )
