-- One valid block with every other blank, and the idle record that goes with it.
use mathlib.Core.Path.{◌≡◌, refl, sym, ap, subst, ◌∙◌}
use mathlib.Core.List.{List}
use mathlib.Core.Bool.{Bool}
use Prim.Native.Nat.{ℕ, suc, ◌+◌, ◌*◌, ◌≤◌, ◌<◌}
use native.Mathlib.Omega.{arith}
use lib.ListN.{length, replicate}
use Rattle.flash.specs.Flash.{apply_all, block, Write, write_all}
use Rattle.flash.proofs.Image.{length-block}
use Rattle.flash.proofs.Offsets.{Below}
use Rattle.frame.specs.declared.Edition.{Edition}
use Rattle.frame.specs.Frame.{end_len, edition_number}
use Rattle.frame.specs.Reader.{clean}
use Rattle.journal.specs.Replay.{Object, State, settled_only}
use Rattle.journal.specs.Block.{Journal, block_state}
use Rattle.journal.specs.Room.{claimed, open_hosts, counts_in}
use Rattle.journal.proofs.Blocks.{blank-block}
use Rattle.journal.proofs.States.{Contents}
use Rattle.journal.proofs.Raising.{blank_harmless}
use Rattle.journal.proofs.Room.{used-kept, kept-none}
use Rattle.board.specs.declared.Rest.{Rest}
use Rattle.board.specs.declared.Record.{Record}
use Rattle.board.specs.Record.{landing, idle}
use Rattle.board.specs.Mount.{replay_of, end_of, places_in}
use Rattle.board.specs.Plan.{on_block}
use Rattle.board.specs.Claim.{Track}
use Rattle.board.proofs.Images.{Sized, sized-as, sized-block, length-all-steps, block_writes, other-writes}
use Rattle.board.proofs.Invariant.{Valid, Quiet, Others, Lesser, Lessers, Safe, some_valid, Ready, Slack, roomy, tight}

-- block k has the journal w, and every other is blank
pub record Alone (N : ℕ) (s : ℕ) (img : List ℕ) (k : ℕ) (w : Journal) : Type 0 where
  pub sized : Sized N s img
  pub there : k < N
  pub contents : Contents (block s k img) w
  pub others : Others N (λ j. block s j img ≡ replicate s 255) k

-- an idle record whose block is of an edition and replays to a state
pub record After (N : ℕ) (s : ℕ) (ed : Edition) (img : List ℕ) (r : Record) (st : State) : Type 0 where
  pub ready : Ready N s img r
  pub edition : ready.journal.edition ≡ ed
  pub state : replay_of ready.journal ≡ st

pub block-long : {N : ℕ} {s : ℕ} {img : List ℕ} (k : ℕ) → Sized N s img → k < N → length (block s k img) ≡ s
block-long {N} {s} {img} k z h = length-block s k img (sized-block k z h)

pub ready-alone : {N : ℕ} {s : ℕ} {img : List ℕ} {r : Record} → Sized N s img → (y : Ready N s img r)
    → Alone N s img y.stands.block y.journal
ready-alone z y = record { sized = z; there = y.there; contents = y.contents; others = y.others }

-- the room that an idle record's block leaves
abbrev pub Roomy : ℕ → Edition → State → Type 0
Roomy s ed st = claimed ed st + end_len ed * open_hosts st.pending ≤ s

pub alone-after : {N : ℕ} {s k : ℕ} {img : List ℕ} {w : Journal} (z : Rest) (st : State) → Alone N s img k w → w.tail ≡ clean → z.blocks ≡ N
    → length img ≡ suc z.last → replay_of w ≡ st → z.pending ≡ counts_in w.edition st → Roomy s w.edition st
    → After N s w.edition img (idle (places_in w) (landing z (edition_number w.edition) k (end_of w))) st
alone-after {N} {s} {k} {img} {w} z st x c blocks long e counts room =
    record {
      ready = record {
        stands = landing z (edition_number w.edition) k (end_of w);
        is = refl;
        blocks = blocks;
        long = long;
        there = x.there;
        journal = w;
        contents = x.contents;
        is_clean = c;
        ends = refl;
        counts = counts ∙ ap (counts_in w.edition) (sym e);
        edition_is = refl;
        room = subst (Roomy s w.edition) (sym e) room;
        others = x.others;
      };
      edition = refl;
      state = e;
    }

-- ---- safe images

-- the state has these objects, with room for a delete and its commit
pub record Keeps (t : Bool) (s : ℕ) (ed : Edition) (st : State) (os : List Object) : Type 0 where
  pub room : Slack t s ed st
  pub same : st.objects ≡ os

slack_settled : {t : Bool} {s : ℕ} {ed : Edition} {st : State} → Slack t s ed st → Slack t s ed (settled_only st)
slack_settled {ed = ed} {st} (roomy l) = roomy (omega (arith, l, used-kept ed st, kept-none ed (settled_only st) refl))
slack_settled (tight t e p l) = tight t e refl l

pub keeps_settled : {t : Bool} {s : ℕ} {ed : Edition} {st : State} {os : List Object} → Keeps t s ed st os → Keeps t s ed (settled_only st) os
keeps_settled p = record { room = slack_settled p.room; same = p.same }

abbrev pub valid-of : {t : Bool} {s k : ℕ} {img : List ℕ} {w : Journal} {os : List Object} → Contents (block s k img) w
    → Keeps t s w.edition (replay_of w) os → Valid t s img k os
valid-of {w = w} x p = record { journal = w; contents = x; room = p.room; same = p.same }

pub blank-quiet : (s : ℕ) (b : List ℕ) → b ≡ replicate s 255 → Quiet (block_state b)
blank-quiet s b e = subst Quiet (sym (ap block_state e ∙ blank-block s)) tt

pub blank_lesser : {N : ℕ} {s : ℕ} {img : List ℕ} → Sized N s img → (t j : ℕ) → block s j img ≡ replicate s 255 → Lesser s img t j
blank_lesser {N} {s} {img} z t j e = blank_harmless s t (block s j img) (omega (arith, z.low)) e

pub blank_lessers : {N : ℕ} {s k : ℕ} {img : List ℕ} → Sized N s img → (t : ℕ) → Others N (λ j. block s j img ≡ replicate s 255) k → Lessers N s img t k
blank_lessers {k = k} z t o = record { older = λ j h n. blank_lesser z t j (o j h n); one = k; blanks = λ j h n _. o j h n }

pub alone-safe : {N : ℕ} {s k : ℕ} {img : List ℕ} {w : Journal} {os : List Object} (u : Track) → Alone N s img k w
    → Keeps u.tight s w.edition (replay_of w) os → Safe N s img os u
alone-safe {N} {s} {k} {img} {w} u x p = some_valid k x.there (valid-of x.contents p) (blank_lessers x.sized w.time x.others)

-- ---- the block written to

pub alone-written : {N : ℕ} {s k : ℕ} {img : List ℕ} {w w' : Journal} (ws : List Write) → Alone N s img k w → Below s ws
    → Contents (write_all (block s k img) ws) w' → Alone N s (apply_all s (on_block k ws) img) k w'
alone-written {N} {s} {k} {img} {w} {w'} ws x b y =
    record {
      sized = sized-as (apply_all s (on_block k ws) img) (length-all-steps s (on_block k ws) img) x.sized;
      there = x.there;
      contents = subst (λ (l : List ℕ). Contents l w') (sym (block_writes s k ws img b)) y;
      others = λ j h n. other-writes s j k ws img n b ∙ x.others j h n;
    }
