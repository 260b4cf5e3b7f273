-- Runs in two parts: what happens, what is left and what is claimed of each.
use mathlib.Core.Path.{◌≡◌, refl}
use mathlib.Core.List.{List, [], ◌∷◌, ◌++◌}
use Prim.Native.Nat.{ℕ, zero, suc}
use lib.ListN.{replicate}
use Rattle.flash.specs.Flash.{size_of, with_block}
use Rattle.board.specs.declared.Record.{Record}
use Rattle.board.specs.Record.{Out}
use Rattle.board.specs.Exec.{Machine, Call, step}
use Rattle.board.specs.Book.{Book, enter_call, enter_step}
use Rattle.board.specs.Claim.{Agrees, track, begun_by, Event, call, cut_erase, Restarts, Happens, Run, Track}
use Rattle.board.specs.CutFormat.{Left, after_all}

-- n step calls
abbrev pub stepping : ℕ → List Event
stepping n = replicate n (call step)

pub after-append : (N : ℕ) (m : Machine) (img : List ℕ) (r : Record) (b : Book) (es ds : List Event)
    → after_all N m img r b (es ++ ds) ≡ (let x : Left = after_all N m img r b es in after_all N m x.image x.board x.book ds)
after-append N m img r b [] ds = refl
after-append N m img r b (call c ∷ es) ds = after-append N m (m img r c).image (m img r c).board (enter_call b c (m img r c).answer) es ds
after-append N m img r b (cut_erase k new q ∷ es) ds = after-append N m (with_block (size_of N img) k new img) q b es ds

restarts_append : (es ds : List Event) → Restarts es → Restarts ds → Restarts (es ++ ds)
restarts_append [] ds x y = y
restarts_append (call c ∷ es) ds x y = x
restarts_append (cut_erase k new q ∷ es) ds x y = absurd x

restarts_first : (es ds : List Event) → Restarts (es ++ ds) → Restarts es
restarts_first [] ds x = tt
restarts_first (call c ∷ es) ds x = x
restarts_first (cut_erase k new q ∷ es) ds x = absurd x

module _ (N : ℕ) (m : Machine) where
  abbrev pub HappensAfter : Left → List Event → Type 0
  HappensAfter x ds = Happens N m x.image x.board x.book ds

  pub happens_append : (img : List ℕ) (r : Record) (b : Book) (es ds : List Event) → Happens N m img r b es → Restarts ds
      → HappensAfter (after_all N m img r b es) ds → Happens N m img r b (es ++ ds)
  happens_append img r b [] ds x n y = y
  happens_append img r b (call c ∷ es) ds (bc, x) n y =
      (bc, happens_append (m img r c).image (m img r c).board (enter_call b c (m img r c).answer) es ds x n y)
  happens_append img r b (cut_erase k new q ∷ es) ds (c, e, x) n y =
      (c, restarts_append es ds e n, happens_append (with_block (size_of N img) k new img) q b es ds x n y)

  pub happens_first : (img : List ℕ) (r : Record) (b : Book) (es ds : List Event) → Happens N m img r b (es ++ ds) → Happens N m img r b es
  happens_first img r b [] ds x = tt
  happens_first img r b (call c ∷ es) ds (bc, x) =
      (bc, happens_first (m img r c).image (m img r c).board (enter_call b c (m img r c).answer) es ds x)
  happens_first img r b (cut_erase k new q ∷ es) ds (c, e, x) =
      (c, restarts_first es ds e, happens_first (with_block (size_of N img) k new img) q b es ds x)

  pub happens_rest : (img : List ℕ) (r : Record) (b : Book) (es ds : List Event) → Happens N m img r b (es ++ ds) → HappensAfter (after_all N m img r b es) ds
  happens_rest img r b [] ds x = x
  happens_rest img r b (call c ∷ es) ds (bc, x) = happens_rest (m img r c).image (m img r c).board (enter_call b c (m img r c).answer) es ds x
  happens_rest img r b (cut_erase k new q ∷ es) ds (c, e, x) = happens_rest (with_block (size_of N img) k new img) q b es ds x

  pub steps_happen : (n : ℕ) (img : List ℕ) (r : Record) (b : Book) → Happens N m img r b (stepping n)
  steps_happen zero img r b = tt
  steps_happen (suc n) img r b = (tt, steps_happen n (m img r step).image (m img r step).board (enter_step b (m img r step).answer))

  pub run_rest : (img : List ℕ) (r : Record) (b : Book) (u : Track) (a : Call) (es ds : List Event) → Run N m img r b u a (es ++ ds)
      → (w : Track) × (d : Call) × (let x : Left = after_all N m img r b es in Run N m x.image x.board x.book w d ds)
  run_rest img r b u a [] ds y = (u, a, y)
  run_rest img r b u a (call c ∷ es) ds (s, e, y) =
      let o : Out = m img r c in
      run_rest o.image o.board (enter_call b c o.answer) (track (size_of N img) u b c o.answer) (begun_by a c o.answer) es ds y
  run_rest img r b u a (cut_erase k new q ∷ es) ds y = run_rest (with_block (size_of N img) k new img) q b u a es ds y

  -- after steps too the record agrees with the book
  pub steps_agree : (n : ℕ) (img : List ℕ) (r : Record) (b : Book) (u : Track) (a : Call) → Agrees N m a u img r b → Run N m img r b u a (stepping n)
      → let x : Left = after_all N m img r b (stepping n) in (w : Track) × Agrees N m a w x.image x.board x.book
  steps_agree zero img r b u a d y = (u, d)
  steps_agree (suc n) img r b u a d (s, e, y) =
      let o : Out = m img r step in
      steps_agree n o.image o.board (enter_step b o.answer) (track (size_of N img) u b step o.answer) a e y
