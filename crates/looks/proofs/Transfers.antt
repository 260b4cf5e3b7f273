-- A survey tells what the definitions say of a valid block: whether something is pending, and how long a torn frame is. The block has room for that.
use mathlib.Core.Path.{◌≡◌, refl, sym, ap, ◌∙◌}
use mathlib.Core.List.{List, [], ◌∷◌, map}
use Prim.Native.Nat.{ℕ, ◌+◌, ◌≤◌, ◌<◌}
use native.Mathlib.Omega.{arith}
use lib.Dec.{ltb}
use lib.ListN.{length}
use borrow.Author.Tests.{lt-ltb}
use Rattle.frame.specs.declared.Edition.{Edition}
use Rattle.frame.specs.Frame.{frame_len, total, next_of}
use Rattle.frame.specs.Reader.{Tail, clean, cut, bad, ends}
use Rattle.frame.proofs.Scanned.{tail-cut}
use Rattle.frame.proofs.Exact.{torn-fits}
use Rattle.journal.specs.Replay.{Entry, pending_frame}
use Rattle.journal.specs.Block.{Journal, header_len, valid, torn_len}
use Rattle.journal.specs.Room.{pending_of}
use Rattle.journal.proofs.PerHost.{bytes-total}
use Rattle.journal.proofs.Replaying.{LegalEntries, sound-replay}
use Rattle.journal.proofs.Blocks.{layout-size}
use Rattle.journal.proofs.States.{Contents}
use Rattle.board.specs.Mount.{replay_of, closed_end}
use Rattle.survey.specs.Survey.{survey_of}
use Rattle.looks.specs.Surveys.{sum_of, pends_in}
use Rattle.looks.specs.Seen.{some_of}

any_bytes : (ed : Edition) (es : List Entry) → some_of es ≡ ltb 0 (total ed (map pending_frame es))
unfolding total
any_bytes ed [] = refl
any_bytes ed (e ∷ es) = sym (lt-ltb 0 (frame_len ed (pending_frame e) + total ed (map pending_frame es)) (omega arith))

module _ {b : List ℕ} {w : Journal} (x : Contents b w) where
  legal_now : LegalEntries w.edition (replay_of w).pending
  legal_now = (sound-replay w.edition w.frames x.layout.stands).entries

  pub any_is : some_of (replay_of w).pending ≡ ltb 0 (sum_of (pending_of w.edition w.frames))
  any_is =
      any_bytes w.edition (replay_of w).pending ∙ ap (ltb 0) (bytes-total w.edition (replay_of w).pending legal_now)

  pub pends_is : some_of (replay_of w).pending ≡ pends_in (survey_of (valid w))
  unfolding survey_of
  pends_is = any_is

  -- a torn frame is some bytes, and they fit
  cut_long : {n : ℕ} → w.tail ≡ cut n → (5 ≤ n) × (n ≤ length x.rest)
  cut_long {n} e =
      torn-fits w.edition (next_of 0 w.frames) x.rest n
      (tail-cut w.edition (next_of 0 w.frames) (header_len + total w.edition w.frames) x.rest n (x.reads ∙ ap ends e))

  pub torn_some : {n : ℕ} → w.tail ≡ cut n → 0 < n
  torn_some e = omega (arith, (cut_long e).0)

  pub cut_not : {n : ℕ} → w.tail ≡ cut n → n ≡ 0 → ⊥
  cut_not q e = let l = torn_some q in omega arith

  pub closed_fits : closed_end w ≤ length b
  closed_fits = go w.tail refl
    where
      go : (c : Tail) → w.tail ≡ c → header_len + total w.edition w.frames + torn_len c ≤ length b
      go clean e = omega (arith, layout-size x.layout)
      go (cut n) e = omega (arith, (cut_long e).1, layout-size x.layout)
      go (bad f) e = omega (arith, layout-size x.layout)
