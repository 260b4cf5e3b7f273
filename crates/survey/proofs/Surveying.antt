-- A block's survey, by the way the code goes: which state it is in, and what a walk of its frames and a tally come to.
use mathlib.Core.Path.{◌≡◌, refl, sym, ap, ap₂, subst, ◌∙◌}
use mathlib.Core.List.{List, ◌++◌}
use mathlib.Core.Option.{none}
use mathlib.Core.Bool.{true, false}
use Prim.Native.Nat.{ℕ, ◌+◌, ◌≤◌}
use native.Mathlib.Omega.{arith}
use lib.Dec.{eqb}
use lib.ListN.{length, length-map, get_or, take, drop, replicate, length-drop, take-append-drop}
use lib.Seq.{length-take-le}
use borrow.Author.Tests.{le-leb}
use Rattle.flash.specs.Bytes.{all_ff}
use Rattle.std.specs.Prelude.{Option, Some, None, unwrap_or, Result, Ok, Err}
use Rattle.frame.specs.declared.Edition.{Edition}
use Rattle.frame.specs.declared.Fault.{Fault}
use Rattle.frame.specs.Frame.{Frame, total, next_of}
use Rattle.frame.specs.Reader.{Tail, clean, cut, bad, Scan, ends}
use Rattle.frame.specs.Sentences.{Torn}
use Rattle.frame.proofs.Scanned.{Scanned, scan_inv, scan-length, tail-cut}
use Rattle.frame.proofs.Exact.{torn-fits}
use Rattle.survey.specs.declared.Walk.{Walk}
use Rattle.survey.specs.declared.BlockKind.{BlockKind}
use Rattle.survey.specs.declared.BlockKind.TheVariants as kind
use Rattle.survey.specs.declared.Survey.{Survey}
use Rattle.journal.specs.Replay.{lookup, list_of, replay, replay_from}
use Rattle.journal.specs.Block.{header_len, block_max, state_at, in_transfer, created_at, edition_in, Journal, journal, BlockState, blank}
use Rattle.journal.specs.Block.{in_progress, valid}
use Rattle.journal.specs.Block.{foreign, of_journal, of_header, block_state, torn_len}
use Rattle.journal.specs.Index.{sited, places_from, places_of, since_from, since_of}
use Rattle.journal.specs.Room.{used, pending_of}
use Rattle.survey.specs.Survey.{survey_of, places_in, state_of, verdict, Judged}
use Rattle.survey.specs.Pass.{scan_block, progress_of, walked, walk_of, lengths_at, settled_total, tally_of, empty_survey, found_survey}
use Rattle.journal.proofs.Replaying.{rising-to, Sound, sound-replay}
use Rattle.journal.proofs.Places.{Standing}
use Rattle.journal.proofs.Room.{claimed-replay}
use Rattle.survey.proofs.Collecting.{place-held, value_lens, collect, settled-total}

-- ---- no frames

pub no-places-of : (n : ℕ) → n ≡ 256 → replicate {A = ℕ} n 0 ≡ replicate 256 0
no-places-of n e = ap (λ (m : ℕ). replicate m 0) e

-- a block that isn't valid, and a table of no places
record Empty (s : BlockState) (k : BlockKind) : Type 0 where
  survey : empty_survey k ≡ survey_of s
  places : replicate 256 0 ≡ places_in s

empty-blank : Empty blank kind.Blank
unfolding empty_survey survey_of total since_from replay_from list_of places_from sited lookup
empty-blank = record { survey = refl; places = refl }

empty-progress : Empty in_progress kind.InProgress
unfolding empty_survey survey_of total since_from replay_from list_of places_from sited lookup
empty-progress = record { survey = refl; places = refl }

empty-foreign : (x : Fault) → Empty (foreign x) (kind.Foreign x)
unfolding empty_survey survey_of total since_from replay_from list_of places_from sited lookup
empty-foreign x = record { survey = refl; places = refl }

-- what the code finds out, of blocks that aren't valid
pub judged_as : (s q : BlockState) (r : Result Survey Fault) (t : List ℕ) → q ≡ s → Judged s r t → Judged q r t
judged_as s q r t e y = subst (λ (x : BlockState). Judged x r t) (sym e) y

judged_blank : (x : Survey) (t : List ℕ) → x ≡ empty_survey kind.Blank → t ≡ replicate 256 0 → Judged blank (Ok x) t
judged_blank x t u v = (ap Ok (u ∙ empty-blank.survey), v ∙ empty-blank.places)

judged_progress : (x : Survey) (t : List ℕ) → x ≡ empty_survey kind.InProgress → t ≡ replicate 256 0 → Judged in_progress (Ok x) t
judged_progress x t u v = (ap Ok (u ∙ empty-progress.survey), v ∙ empty-progress.places)

-- a fault is a foreign block's, which has no places
none_there : (s : BlockState) (f : Fault) → Err f ≡ verdict s → replicate 256 0 ≡ places_in s
none_there blank f e = cc
none_there in_progress f e = cc
none_there (valid j) f e = cc
none_there (foreign g) f e = (empty-foreign g).places

pub judged_foreign : (s : BlockState) (f : Fault) (r : Result Survey Fault) (t : List ℕ) → r ≡ Err f → r ≡ verdict s → t ≡ replicate 256 0 → Judged s r t
judged_foreign s f r t q e v = (e, v ∙ none_there s f (sym q ∙ e))

-- what the code then gives back
pub err_right : (s : BlockState) (f : Fault) (x : Survey) → Err f ≡ verdict s → x ≡ empty_survey (kind.Foreign f) → x ≡ survey_of s
err_right blank f x e u = cc
err_right in_progress f x e u = cc
err_right (valid j) f x e u = cc
err_right (foreign g) f x e u = let q : f ≡ g = cc in u ∙ ap (λ (y : Fault). empty_survey (kind.Foreign y)) q ∙ (empty-foreign g).survey

-- ---- by the block's length

module _ (b : List ℕ) where
  -- callers' blocks are halves
  pub half_fits : (header_len ≤ length b) × (length b ≤ block_max) → state_of b ≡ block_state b
  unfolding state_of
  half_fits (l, m) = rw (le-leb header_len (length b) l, le-leb (length b) block_max m, state_of)

-- ---- which state

module _ (b : List ℕ) (h : (header_len ≤ length b) × (length b ≤ block_max)) where
  pub is_blank : all_ff b ≡ true → (x : Survey) (t : List ℕ) → x ≡ empty_survey kind.Blank → t ≡ replicate 256 0 → Judged (state_of b) (Ok x) t
  unfolding block_state
  is_blank a x t u v = judged_as blank (state_of b) (Ok x) t (half_fits b h ∙ rw (a, block_state)) (judged_blank x t u v)

  pub is_progress : all_ff b ≡ false → eqb (get_or b state_at 0) in_transfer ≡ true → (x : Survey) (t : List ℕ) → x ≡ empty_survey kind.InProgress
      → t ≡ replicate 256 0 → Judged (state_of b) (Ok x) t
  unfolding block_state
  is_progress a p x t u v = judged_as in_progress (state_of b) (Ok x) t (half_fits b h ∙ rw (a, p, block_state)) (judged_progress x t u v)

-- ---- a valid block

module _ (ed : Edition) (b : List ℕ) (g : ed ≡ edition_in b) (h : header_len ≤ length b) where
  abbrev frames_scan : Scan
  frames_scan = scan_block ed b

  abbrev fs : List Frame
  fs = frames_scan.frames

  whole : Scanned ed 0 header_len (drop header_len b) frames_scan
  whole = scan_inv ed 0 header_len (drop header_len b)

  standing : Standing ed b fs
  standing =
      record {
        head = take header_len b;
        rest = whole.rest;
        split = sym (take-append-drop header_len b) ∙ ap (λ (x : List ℕ). take header_len b ++ x) whole.is;
        long = length-take-le header_len b h;
        stand = whole.stands;
      }

  settled_all : lengths_at ed b (places_of ed fs) 256 0 ≡ value_lens (replay fs).objects
  settled_all =
      let k : Sound ed (next_of 0 fs) (replay fs) = sound-replay ed fs whole.stands in
      collect ed b (places_of ed fs) 256 0 (replay fs).objects (omega arith) (rising-to ed 0 (replay fs).objects (next_of 0 fs) 256 k.low k.rising)
      (λ j u w. place-held ed b fs (record { 0 = j }) standing w)

  tallied : (tally_of ed (lengths_at ed b (places_of ed fs) 256 0)).used ≡ used ed (replay fs)
  tallied =
      ap (λ (x : List ℕ). header_len + settled_total ed x) settled_all ∙ ap (λ (n : ℕ). header_len + n) (settled-total ed (replay fs).objects)

  -- U is at most what the frames take
  pub tally_fits : (t : List ℕ) → t ≡ places_of ed fs → (tally_of ed (lengths_at ed b t 256 0)).used ≤ length b
  tally_fits t p =
      omega (
        arith,
        ap (λ (x : List ℕ). (tally_of ed (lengths_at ed b x 256 0)).used) p ∙ tallied,
        claimed-replay ed fs,
        scan-length ed 0 header_len (drop header_len b) frames_scan whole,
        length-drop header_len b,
      )

  abbrev read : Tail → Journal
  read c = journal ed (created_at b) fs c

  of-header : of_header b none ≡ of_journal (read frames_scan.tail)
  of-header = ap (λ (x : Edition). of_journal (journal x (created_at b) (scan_block x b).frames (scan_block x b).tail)) (sym g)

  survey_found : (c : Tail) → found_survey ed b (places_of ed fs) (progress_of ed fs) (torn_len c) ≡ survey_of (valid (read c))
  unfolding found_survey survey_of
  survey_found c =
      ap₂
      (λ (n u : ℕ). record {
        kind = kind.Valid;
        edition = ed;
        time = created_at b;
        end = header_len + total ed fs;
        torn = torn_len c;
        since = since_of ed fs;
        pending = pending_of ed fs;
        count = n;
        used = u;
      })
      (ap length settled_all ∙ length-map (replay fs).objects _)
      tallied

  tail_bad : (f : Fault) (c : Tail) → Err f ≡ walked (progress_of ed fs) c → c ≡ bad f
  tail_bad f clean e = cc
  tail_bad f (cut n) e = cc
  tail_bad f (bad g) e = cc

  pub frames_bad : (f : Fault) (t : List ℕ) → Err f ≡ walk_of ed frames_scan → t ≡ replicate 256 0 → Judged (of_header b none) (Err f) t
  frames_bad f t e v =
      judged_as (foreign f) (of_header b none) (Err f) t (of-header ∙ ap (λ (c : Tail). of_journal (read c)) (tail_bad f frames_scan.tail e))
      (refl, v ∙ (empty-foreign f).places)

  module _ (w : Walk) (e : Ok w ≡ walk_of ed frames_scan) where
    -- a torn frame would fit
    pub torn_fits : unwrap_or w.torn 0 ≤ length b
    torn_fits = go frames_scan.tail refl e
      where
        go : (c : Tail) → frames_scan.tail ≡ c → Ok w ≡ walked (progress_of ed fs) c → unwrap_or w.torn 0 ≤ length b
        go clean q z = let y : w.torn ≡ None = cc in omega (arith, ap (λ (m : Option ℕ). unwrap_or m 0) y)
        go (cut n) q z =
            let k : w.torn ≡ Some n = cc in
            let y : Torn ed (next_of 0 fs) whole.rest n =
            tail-cut ed (next_of 0 fs) (header_len + total ed fs) whole.rest n (whole.tail ∙ ap ends q) in
            omega (arith, ap (λ (m : Option ℕ). unwrap_or m 0) k, (torn-fits ed (next_of 0 fs) whole.rest n y).1, scan-length ed 0 header_len (drop header_len b) frames_scan whole, length-drop header_len b)
        go (bad f) q z = cc

    module _ (t : List ℕ) (s : Survey) (p : t ≡ places_of ed fs) (u : s ≡ found_survey ed b t w.progress (unwrap_or w.torn 0)) where
      judged_valid : (c : Tail) (n : Option ℕ) → unwrap_or n 0 ≡ torn_len c → frames_scan.tail ≡ c → of_journal (read c) ≡ valid (read c)
          → w ≡ record { progress = progress_of ed fs; torn = n } → Judged (of_header b none) (Ok s) t
      judged_valid c n m q o z =
          judged_as (valid (read c)) (of_header b none) (Ok s) t (of-header ∙ ap (λ (x : Tail). of_journal (read x)) q ∙ o) (
            ap Ok (u ∙ ap₂ (λ (x : List ℕ) (y : Walk). found_survey ed b x y.progress (unwrap_or y.torn 0)) p z
                ∙ ap (found_survey ed b (places_of ed fs) (progress_of ed fs)) m ∙ survey_found c),
            p,
          )

      pub frames_sound : Judged (of_header b none) (Ok s) t
      frames_sound = go frames_scan.tail refl e
        where
          go : (c : Tail) → frames_scan.tail ≡ c → Ok w ≡ walked (progress_of ed fs) c → Judged (of_header b none) (Ok s) t
          go clean q z = judged_valid clean None refl q refl cc
          go (cut n) q z = judged_valid (cut n) (Some n) refl q refl cc
          go (bad f) q z = cc
