-- Demand 2 of every machine that keeps the clauses on each call, and the whole promise.
use mathlib.Core.Path.{◌≡◌, sym, ap, subst, ◌∙◌}
use mathlib.Core.List.{List, [], ◌∷◌}
use mathlib.Core.Logic.{inl, inr}
use Prim.Native.Nat.{ℕ}
use Rattle.flash.specs.Bytes.{Bytes}
use Rattle.flash.specs.Flash.{size_of, with_block}
use Rattle.wire.specs.Answer.{number_of}
use Rattle.board.specs.declared.Record.{Record}
use Rattle.board.specs.Record.{Out}
use Rattle.board.specs.Mount.{Store}
use Rattle.board.specs.Exec.{Machine, mount, format, exec}
use Rattle.board.specs.Plan.{mount_work}
use Rattle.board.specs.Demand2.{Accepted, Mounts, OneStore, EachCall, FromAny, NotStale, UsableFrom, StepLands, LandsFrom}
use Rattle.board.specs.Book.{Book, enter_call}
use Rattle.board.specs.Claim.{Event, call, cut_erase, Happens}
use Rattle.board.specs.Promise.{Kept, mount-job, Calls, Promise, Shown}
use Rattle.board.proofs.Demand2.{one_store, usable-from, lands-from}
use Rattle.board.proofs.Alike.{Alike, Agree}
use Rattle.board.proofs.Determining.{mount_allowed, call_agrees, mount_agrees, format_agrees, begun_agrees}
use Rattle.board.proofs.TablingMounts.{mounts-current}
use Rattle.board.proofs.Promising.{calls}
use Rattle.board.proofs.Clearing.{only-clears}
use Rattle.board.proofs.Limits.{room_exact, wear_exact, share_exact}
use Rattle.board.proofs.LimitsConverts.{convert-answers}
use Rattle.board.proofs.Following.{job_steps, cut_bytes, happens_over, claim_of, cut_format_of}

module _ {N : ℕ} {m : Machine} (p : Calls N m) where
  mounts_over : (img : List ℕ) (r : Record) (x : Out) → Bytes img → Accepted (m img r mount).answer → Mounts N (exec N) img x → Mounts N m img (m img r mount)
  mounts_over img r x by a y =
      let s : Store = y.store in
      record {
        store = s;
        there = y.there;
        is-valid = y.is-valid;
        newest = y.newest;
        follows = (p.jobs img r mount (mount_work N img s) by tt (mount-job s (mounts-current img by (mount_allowed p img by r a) x y)) a).0;
        short = y.short;
        erases = y.erases;
        holding = y.holding;
        is_fresh = y.is_fresh;
        holds = y.holds;
      }

  one_store_of : OneStore N m
  unfolding OneStore
  one_store_of img r by ok a =
      let e : (m img r mount).answer ≡ (exec N img r mount).answer = ap (λ (s : Shown). s.answer) (mount_agrees p calls img by r r).same in
      mounts_over img r (exec N img r mount) by a (one_store N img r by ok (subst Accepted e a))

  -- ---- every run

  -- P is had by the image and the answer that a call gives back
  module _ (P : List ℕ → Out → Type 0) (over : (img : List ℕ) (o x : Out) → o.image ≡ x.image → o.answer ≡ x.answer → P img x → P img o) where
    fine_over : (img : List ℕ) (o x : Out) → Agree N m (exec N) o x → P img x → P img o
    fine_over img o x w y = over img o x w.image (ap (λ (s : Shown). s.answer) w.same) y

    each_run : (img : List ℕ) (r q : Record) (b : Book) → Bytes img → Alike N m (exec N) img r q → (es : List Event) → Happens N m img r b es
        → EachCall N (exec N) P img q es → EachCall N m P img r es
    each_run img r q b by v [] h y = tt
    each_run img r q b by v (call c ∷ es) (bc, h) (y, z) =
        let o : Out = m img r c in
        let x : Out = exec N img q c in
        let w : Agree N m (exec N) o x = call_agrees p calls img by r q v c bc in (
          fine_over img o x w y,
          each_run o.image o.board x.board (enter_call b c o.answer) w.bytes w.next es h
              (subst (λ (i : List ℕ). EachCall N (exec N) P i x.board es) (sym w.image) z),
        )
    each_run img r q b by v (cut_erase k new g ∷ []) h y = tt
    each_run img r q b by v (cut_erase k new g ∷ call c ∷ es) (d, n, (bc, h)) (y, z) =
        let i : List ℕ = with_block (size_of N img) k new img in
        let o : Out = m i g c in
        let x : Out = exec N i g c in
        let w : Agree N m (exec N) o x = begun_agrees p calls i g g c (cut_bytes p by d) n in (
          fine_over i o x w y,
          each_run o.image o.board x.board (enter_call b c o.answer) w.bytes w.next es h
              (subst (λ (l : List ℕ). EachCall N (exec N) P l x.board es) (sym w.image) z),
        )
    each_run img r q b by v (cut_erase k new g ∷ cut_erase j more f ∷ es) (d, n, h) y = absurd n

    -- from a first call's outcome on
    each_first : (img : List ℕ) (o x : Out) (b : Book) → o.image ≡ img → Agree N m (exec N) o x → (es : List Event) → Happens N m img o.board b es
        → (Happens N (exec N) img x.board b es → EachCall N (exec N) P img x.board es) → EachCall N m P img o.board es
    each_first img o x b e w es h f =
        let by : Bytes img = subst Bytes e w.bytes in
        let v : Alike N m (exec N) img o.board x.board = subst (λ (i : List ℕ). Alike N m (exec N) i o.board x.board) e w.next in
        each_run img o.board x.board b by v es h (f (happens_over p img o.board x.board b by v es h))

    from_any : FromAny N (exec N) P → FromAny N m P
    from_any f =
        record {
          from_mount = λ img r b es by ok h.
              each_first img (m img r mount) (exec N img r mount) b (p.one-step img r mount) (mount_agrees p calls img by r r) es h
              (f.from_mount img r b es by ok);
          from_format = λ img r b es by ok h.
              each_first img (m img r format) (exec N img r format) b (p.one-step img r format) (format_agrees p calls img by r r) es h
              (f.from_format img r b es by ok);
        }

  lands_of : LandsFrom N m
  lands_of = from_any (StepLands N) over (lands-from N)
    where
      over : (img : List ℕ) (o x : Out) → o.image ≡ x.image → o.answer ≡ x.answer → StepLands N img x → StepLands N img o
      over img o x e a (inl f) = inl (e ∙ f)
      over img o x e a (inr (s, f, l)) = inr (s, e ∙ f, l)

  usable_of : UsableFrom N m
  usable_of = from_any (λ img o. NotStale o) (λ img o x e a y f. y (ap number_of (sym a) ∙ f)) (usable-from N)

-- ---- the promise

pub from-calls : {N : ℕ} {m : Machine} → Calls N m → Promise N m
from-calls p =
    record {
      calls = p;
      steps = job_steps p;
      clears = only-clears p;
      one_store = one_store_of p;
      usable = usable_of p;
      share = share_exact p;
      room = room_exact p;
      wear = wear_exact p;
      converting = convert-answers p;
      lands = lands_of p;
      claim = claim_of p;
      cut_format = cut_format_of p;
    }

pub promise : {N : ℕ} → Promise N (exec N)
promise = from-calls calls

-- for every N
pub kept : Kept exec
kept N = promise
