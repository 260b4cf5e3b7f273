-- The pending counts that each job leaves are as document 02's K7 words them.
use mathlib.Core.Path.{◌≡◌, refl, sym, ap, ◌∙◌}
use mathlib.Core.List.{List, [], ◌∷◌, ◌++◌}
use Prim.Native.Nat.{ℕ, ◌+◌, ◌-◌, ◌≤◌}
use native.Mathlib.Omega.{arith}
use lib.ListN.{length}
use Rattle.flash.specs.Flash.{size_of}
use Rattle.frame.specs.declared.Host.{Host}
use Rattle.frame.specs.declared.Edition.{Edition}
use Rattle.frame.specs.Frame.{Change, Frame, change, commit, abort}
use Rattle.journal.specs.Block.{Journal}
use Rattle.journal.specs.Laws.{then, pending_after, change_bytes, changes_bytes, CountsAre}
use Rattle.journal.proofs.ReplayLaws.{replay_laws, pending-exact}
use Rattle.board.specs.declared.Rest.{Rest}
use Rattle.board.specs.declared.Record.{Record}
use Rattle.board.specs.Mount.{next_block, Store, Upkeep, rests, mends, moves, upkeep, store_at, block_in}
use Rattle.board.specs.Queue.{counted}
use Rattle.board.specs.Plan.{upkeep_work, frame_work}
use Rattle.board.specs.Sentences.{count_in, count_after, CountsExact}
use Rattle.board.proofs.Lengths.{frame_cases}

changes_snoc : (ed : Edition) (cs : List Change) (c : Change) → changes_bytes ed (cs ++ (c ∷ [])) ≡ changes_bytes ed cs + change_bytes ed c
changes_snoc ed [] c = omega arith
changes_snoc ed (x ∷ cs) c = omega (arith, changes_snoc ed cs c)

upkeep_keeps : (u : Upkeep) (j : ℕ) (b : List ℕ) (z : Rest) (x : Store) → (upkeep_work u j b z x).last.rest.pending ≡ z.pending
upkeep_keeps rests j b z x = refl
upkeep_keeps mends j b z x = refl
upkeep_keeps moves j b z x = refl

module _ (N : ℕ) (img : List ℕ) (r : Record) (x : Journal) where
  after_frame : (f : Frame) → CountsAre x.edition (frame_work N img r x f).last.rest.pending (then x.frames f)
  after_frame f =
      let are : CountsAre x.edition (counted r.rest x f).pending (then x.frames f) = pending-exact.are x.edition (then x.frames f) in
      frame_cases (λ w. CountsAre x.edition w.last.rest.pending (then x.frames f)) (size_of N img) (next_block N r.rest.block)
      (counted r.rest x f) x f (λ e. are) (λ e. are)

  comes_to : (f : Frame) (g : Host) (cs : List Change) → g.0 ≤ 3 → pending_after g (then x.frames f) ≡ cs
      → count_after N img r x f g ≡ changes_bytes x.edition cs
  comes_to f g cs l e = (after_frame f).each g l ∙ ap (changes_bytes x.edition) e

  stays : (f : Frame) (g : Host) → g.0 ≤ 3 → CountsAre x.edition r.rest.pending x.frames
      → pending_after g (then x.frames f) ≡ pending_after g x.frames → count_after N img r x f g ≡ count_in r g
  stays f g l y e = comes_to f g (pending_after g x.frames) l e ∙ sym (y.each g l)

pub counts-exact : CountsExact
counts-exact =
    record {
      four = λ N img r x f. (after_frame N img r x f).four;
      change_own = λ N img r x h c l y.
          comes_to N img r x (change h c) h (pending_after h x.frames ++ (c ∷ [])) l (replay_laws.change_own x.frames h c)
          ∙ changes_snoc x.edition (pending_after h x.frames) c
          ∙ ap (λ (n : ℕ). n + change_bytes x.edition c) (sym (y.each h l));
      change_other = λ N img r x g h c l n y. stays N img r x (change h c) g l y (replay_laws.change_other x.frames g h c n);
      commit_own = λ N img r x h l. comes_to N img r x (commit h) h [] l (replay_laws.commit_own x.frames h);
      commit_other = λ N img r x g h l n y. stays N img r x (commit h) g l y (replay_laws.commit_other x.frames g h n);
      abort_own = λ N img r x h l. comes_to N img r x (abort h) h [] l (replay_laws.abort_own x.frames h);
      abort_other = λ N img r x g h l n y. stays N img r x (abort h) g l y (replay_laws.abort_other x.frames g h n);
      mounted = λ N img x. upkeep_keeps (upkeep (size_of N img) x) (next_block N x.number) (block_in N img x) (store_at N (length img - 1) x) x;
      formatted = λ N img. refl;
    }
