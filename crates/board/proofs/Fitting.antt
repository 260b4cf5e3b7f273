-- A request's frame is legal, and there is room for it and for the commits after it.
use mathlib.Core.Path.{◌≡◌, refl, subst}
use mathlib.Core.List.{List, [], ◌∷◌, ◌++◌}
use mathlib.Core.Bool.{Bool, true, false}
use Prim.Native.Nat.{ℕ, ◌+◌, ◌*◌, ◌≤◌}
use native.Mathlib.Omega.{arith}
use borrow.Author.Tests.{ltb-false}
use Rattle.frame.specs.declared.Edition.{Edition}
use Rattle.frame.specs.declared.Edition.TheVariants as edition
use Rattle.frame.specs.declared.Host.{Host}
use Rattle.frame.specs.Frame.{host_max, Change, put, delete, Frame, change, commit, abort, frame_len, end_len, Tears, MayStand}
use Rattle.journal.specs.Replay.{State, entry, next_state, is_open_of}
use Rattle.journal.specs.Block.{Journal}
use Rattle.journal.specs.Room.{claimed, open_hosts, no_room_of, spare}
use Rattle.journal.proofs.Room.{change-room, commit-room, abort-room}
use Rattle.wire.specs.declared.Request.{Request}
use Rattle.wire.specs.declared.Request.TheVariants.{Put, Delete, Commit, Abort, Read, Log, Convert}
use Rattle.wire.specs.Message.{value_in_of}
use Rattle.board.specs.Mount.{replay_of}
use Rattle.board.specs.Table.{task_for, appends, idles, end_task, convert_task}
use Rattle.board.proofs.Checks.{room_rule}
use Rattle.board.proofs.Current.{Roomy}
use Rattle.board.proofs.Editions.{ends-one, ends-fewer}
use Rattle.board.proofs.Serving.{Legal}

-- a legal frame that there is room for, and after it for the commits
pub record Fitting (s : ℕ) (ed : Edition) (st : State) (f : Frame) : Type 0 where
  pub host : Tears f
  pub legal : MayStand ed 256 f
  pub fits : claimed ed st + frame_len ed f ≤ s
  pub room : Roomy s ed (next_state st f)

change-fits : (s : ℕ) (ed : Edition) (st : State) (h : Host) (c : Change) → MayStand ed 256 (change h c) → no_room_of ed s st h c ≡ false
    → Fitting s ed st (change h c)
unfolding no_room_of
change-fits s ed st h c g t =
    let n : ℕ = claimed ed st + frame_len ed (change h c) + end_len ed * open_hosts (st.pending ++ (entry h c ∷ [])) + spare ed c in
    let l : n ≤ s = ltb-false s n t in
    record { host = tt; legal = g; fits = omega (arith, l); room = omega (arith, l, change-room ed st h c) }

commit-fits : (s : ℕ) (ed : Edition) (st : State) (h : Host) → h.0 ≤ host_max → Roomy s ed st → is_open_of h st.pending ≡ true → Fitting s ed st (commit h)
commit-fits s ed st h k l t =
    record {
      host = tt;
      legal = k;
      fits = omega (arith, l, ends-one ed h st.pending k t);
      room = omega (arith, l, commit-room ed st h, ends-fewer ed h st.pending);
    }

abort-fits : (s : ℕ) (ed : Edition) (st : State) (h : Host) → h.0 ≤ host_max → Roomy s ed st → is_open_of h st.pending ≡ true → Fitting s ed st (abort h)
abort-fits s ed st h k l t =
    record {
      host = tt;
      legal = k;
      fits = omega (arith, l, ends-one ed h st.pending k t);
      room = omega (arith, l, abort-room ed st h, ends-fewer ed h st.pending);
    }

pub the_frame : {f g : Frame} → appends f ≡ appends g → f ≡ g
the_frame e = cc

pub no-frame : {P : Type 0} {f : Frame} → idles ≡ appends f → P
no-frame e = let z : ◌≡◌ {A = ℕ} 0 1 = cc in absurd (omega arith)

frame_if : {s : ℕ} {ed : Edition} {st : State} {f : Frame} (b : Bool) (g : Frame) → (b ≡ true → Fitting s ed st g) → end_task b g ≡ appends f
    → Fitting s ed st f
frame_if {s} {ed} {st} true g y e = subst (Fitting s ed st) (the_frame e) (y refl)
frame_if false g y e = no-frame e

pub no-convert : {P : Type 0} {f : Frame} (d : Edition) → convert_task d ≡ appends f → P
no-convert edition.First e = let z : ◌≡◌ {A = ℕ} 0 1 = cc in absurd (omega arith)
no-convert edition.Second e = no-frame e

pub frame-fits : (s : ℕ) (h : Host) (m : List ℕ) (x : Journal) (q : Request) (f : Frame) → Roomy s x.edition (replay_of x) → h.0 ≤ host_max
    → Legal x.edition h m q → room_rule s h m x q ≡ false → task_for h m x q ≡ appends f → Fitting s x.edition (replay_of x) f
frame-fits s h m x (Put i) f l k g t e =
    subst (Fitting s x.edition (replay_of x)) (the_frame e) (change-fits s x.edition (replay_of x) h (put i (value_in_of m)) g t)
frame-fits s h m x (Delete i) f l k g t e =
    subst (Fitting s x.edition (replay_of x)) (the_frame e) (change-fits s x.edition (replay_of x) h (delete i) g t)
frame-fits s h m x Commit f l k g t e =
    frame_if (is_open_of h (replay_of x).pending) (commit h) (commit-fits s x.edition (replay_of x) h k l) e
frame-fits s h m x Abort f l k g t e =
    frame_if (is_open_of h (replay_of x).pending) (abort h) (abort-fits s x.edition (replay_of x) h k l) e
frame-fits s h m x (Read i) f l k g t e = no-frame e
frame-fits s h m x (Log p) f l k g t e = no-frame e
frame-fits s h m x Convert f l k g t e = no-convert x.edition e
