-- The laws of the pass, by the heads that the code reads.
use mathlib.Core.Path.{◌≡◌, refl, sym, ap, ap₂, subst, subst₂, ◌∙◌}
use mathlib.Core.List.{List, [], ◌∷◌}
use Prim.Native.Nat.{ℕ, suc, ◌+◌, ◌-◌, ◌≤◌, ◌<◌}
use native.Mathlib.Omega.{arith}
use borrow.Author.Tests.{eq-eqb, ne_eqb}
use lib.ListN.{length, get_or, drop}
use Rattle.frame.specs.declared.Edition.{Edition}
use Rattle.frame.specs.declared.Fault.{Fault}
use Rattle.frame.specs.declared.Head.{Head}
use Rattle.frame.specs.declared.Head.TheVariants as head
use Rattle.frame.specs.declared.FrameRead.TheVariants as read
use Rattle.frame.specs.Frame.{Frame}
use Rattle.frame.specs.Reader.{whole, read_frame, Tail, clean, cut, bad, Scan, ends, scan}
use Rattle.frame.specs.Code.{head_of, read_of, peek_at, head_len, value_len_of}
use Rattle.reader.proofs.Answers.{wrong-read}
use Rattle.frame.proofs.Scanning.{push_all, push-ends}
use Rattle.survey.specs.declared.Progress.{Progress}
use Rattle.journal.specs.Block.{header_len}
use Rattle.journal.specs.Index.{places_of}
use Rattle.survey.specs.Pass.{grown, ended, ended_all, passed, took_frame, took_places, walked, walk_of, lengths_at, settled_total, tally_of}
use Rattle.journal.proofs.PerHost.{pending-most}
use Rattle.fetch.proofs.FrameReads.{whole_is, blank-is, torn_is, scan-blank-at, scan-torn-at, scan-wrong-at}
use Rattle.survey.proofs.Passing.{Reached, reached-on}

-- ---- the walk

took_end : (ed : Edition) (p : Progress) (k : Head) → (took_frame ed p k).end ≡ p.end + head_len ed k
unfolding took_frame grown ended ended_all passed
took_end ed p (head.Put h i n) = refl
took_end ed p (head.Delete h i) = refl
took_end ed p (head.Commit h) = refl
took_end ed p (head.Abort h) = refl
took_end ed p (head.Settled i n) = refl
took_end ed p (head.Closed n) = refl
took_end ed p head.Reset = refl

pub taken-end : (ed : Edition) (p q : Progress) (k : Head) → q ≡ took_frame ed p k → q.end ≡ p.end + head_len ed k
taken-end ed p q k e = ap (λ (x : Progress). x.end) e ∙ took_end ed p k

module _ (ed : Edition) {b t : List ℕ} {p : Progress} (y : Reached ed b t p) where
  pub reached_pending : (k : ℕ) → get_or p.pending k 0 ≤ p.end
  reached_pending k = rw y.progress (pending-most ed y.frames k)

  pub reached_more : (q : Progress) (u : List ℕ) (k : Head) → read_of (read_frame ed p.next p.end (drop p.end b)) ≡ read.Whole k → q ≡ took_frame ed p k
      → u ≡ took_places ed b p k t
      → Reached ed b u q
  reached_more q u k e eq eu =
      let w : (f : Frame) × (read_frame ed p.next p.end (drop p.end b) ≡ whole f) × (head_of f ≡ k) =
      whole_is (read_frame ed p.next p.end (drop p.end b)) k e in
      subst₂ (Reached ed b) (sym eu) (sym eq)
      (subst (λ (x : Head). Reached ed b (took_places ed b p x t) (took_frame ed p x)) w.2 (reached-on ed w.0 y w.1))

  abbrev whole_scan : Scan
  whole_scan = scan ed 0 header_len 0 (drop header_len b)

  -- the walk ends here
  abbrev Ends : Tail → Type 0
  Ends c = (walked p c ≡ walk_of ed whole_scan) × (t ≡ places_of ed whole_scan.frames)

  ends_with : (c : Tail) → scan ed p.next p.end 0 (drop p.end b) ≡ ends c → Ends c
  ends_with c e =
      let q : whole_scan ≡ record { frames = y.frames; tail = c } = y.scanned ∙ ap (push_all y.frames) e ∙ push-ends y.frames c in (
        ap (λ (x : Progress). walked x c) y.progress ∙ ap (walk_of ed) (sym q),
        y.places ∙ ap (λ (s : Scan). places_of ed s.frames) (sym q),
      )

  pub ends_blank : read_of (read_frame ed p.next p.end (drop p.end b)) ≡ read.Blank → Ends clean
  ends_blank e = ends_with clean (scan-blank-at ed p.next p.end (drop p.end b) (blank-is (read_frame ed p.next p.end (drop p.end b)) e))

  pub ends_torn : (n : ℕ) → read_of (read_frame ed p.next p.end (drop p.end b)) ≡ read.Torn n → Ends (cut n)
  ends_torn n e = ends_with (cut n) (scan-torn-at ed p.next p.end (drop p.end b) n (torn_is (read_frame ed p.next p.end (drop p.end b)) n e))

  pub ends_wrong : (x : Fault) → read_of (read_frame ed p.next p.end (drop p.end b)) ≡ read.Wrong x → Ends (bad x)
  ends_wrong x e =
      ends_with (bad x) (scan-wrong-at ed p.next p.end (drop p.end b) x (wrong-read (read_frame ed p.next p.end (drop p.end b)) x e))

-- ---- the tally

module _ (ed : Edition) (b places : List ℕ) (i : ℕ) where
  abbrev from_here : List ℕ
  from_here = lengths_at ed b places (256 - i) i

  pub tally_end : 256 ≤ i → from_here ≡ []
  unfolding lengths_at
  tally_end l = let e : 256 - i ≡ 0 = omega arith in rw e

  module _ (l : i < 256) where
    abbrev later : List ℕ
    later = lengths_at ed b places (256 - (i + 1)) (i + 1)

    one_more : 256 - i ≡ suc (256 - (i + 1))
    one_more = omega arith

    next_id : suc i ≡ i + 1
    next_id = omega arith

    pub tally_no : get_or places i 0 ≡ 0 → from_here ≡ later
    unfolding lengths_at
    tally_no e =
        ap (λ (n : ℕ). lengths_at ed b places n i) one_more
        ∙ rw (eq-eqb (get_or places i 0) 0 e, lengths_at) (ap (lengths_at ed b places (256 - (i + 1))) next_id)

    pub tally_yes : (get_or places i 0 ≡ 0 → ⊥) → from_here ≡ value_len_of (peek_at ed b (get_or places i 0)) ∷ later
    unfolding lengths_at
    tally_yes e =
        ap (λ (n : ℕ). lengths_at ed b places n i) one_more
        ∙ rw (ne_eqb (get_or places i 0) 0 e, lengths_at)
        (ap (λ (j : ℕ). value_len_of (peek_at ed b (get_or places i 0)) ∷ lengths_at ed b places (256 - (i + 1)) j) next_id)

pub same_tally : (ed : Edition) (ns : List ℕ) (n u : ℕ) → n ≡ length ns → u ≡ header_len + settled_total ed ns → record { count = n; used = u } ≡ tally_of ed ns
same_tally ed ns n u e f = ap₂ (λ (x y : ℕ). record { count = x; used = y }) e f
