-- What is done with the block that is taken is what the definition says, by what a look kept of it.
use mathlib.Core.Path.{◌≡◌, refl, ap, ◌∙◌}
use mathlib.Core.List.{List, [], ◌∷◌}
use mathlib.Core.Bool.{Bool, true, false, ◌&&◌, cond}
use Prim.Native.Nat.{ℕ, ◌+◌}
use native.Mathlib.Omega.{arith}
use lib.Dec.{ltb}
use lib.ListN.{length}
use borrow.Author.Tests.{ne_eqb, lt-ltb}
use Rattle.flash.specs.Flash.{Write}
use Rattle.flash.proofs.Cases.{on_test}
use Rattle.frame.specs.Frame.{reset, encode, reset_len, edition_number, edition_by, buffer}
use Rattle.frame.specs.Reader.{Tail, clean, cut, bad}
use Rattle.frame.proofs.Encode.{edition-back, length-encode}
use Rattle.journal.specs.Replay.{Entry}
use Rattle.journal.specs.Block.{Journal, torn_len, close_writes}
use Rattle.journal.proofs.Blocks.{Okay}
use Rattle.journal.proofs.States.{Contents}
use Rattle.board.specs.Record.{no_frame, rest}
use Rattle.board.specs.Mount.{Store, end_of, closed_end, replay_of, Upkeep, rests, mends, moves, for_tail, for_pending, upkeep, transfers}
use Rattle.board.specs.Mount.{reset_bytes, closes_for, appends_for, stands_for}
use Rattle.looks.specs.Seen.{some_of, kept_of}
use Rattle.looks.proofs.Transfers.{cut_not}
use Rattle.store.specs.declared.mends.Mend.{Mend}
use Rattle.store.specs.declared.mends.Mend.TheVariants.{Transfer, Append}
use Rattle.store.specs.Mends.{closes_of, torn_writes, mend_in}

-- ---- by the kind of upkeep

abbrev pub end_for : Upkeep → Journal → ℕ
end_for rests x = end_of x
end_for mends x = closed_end x
end_for moves x = end_of x

abbrev mend_of : Bool → ℕ → List Write → ℕ → Mend
mend_of true e ws n = Transfer
mend_of false e ws n = Append e (closes_of ws) n

abbrev pub mend_for : Upkeep → List ℕ → Journal → Mend
mend_for u b x = mend_of (transfers u) (end_for u x) (closes_for u b x) (length (appends_for u x))

pub stands_is : (u : Upkeep) (N l k n : ℕ) (x : Journal) → rest N l k (end_for u x) n ≡ stands_for u (rest N l k (end_of x) n) x
stands_is rests N l k n x = refl
stands_is mends N l k n x = refl
stands_is moves N l k n x = refl

-- the frame that is laid is the one to append
abbrev laid : Journal → List ℕ → List ℕ
laid x bs = cond (ltb 0 (length bs)) (buffer (encode (edition_by (edition_number x.edition)) reset)) no_frame

reset-length : (x : Journal) → length (encode x.edition reset) ≡ reset_len x.edition
reset-length x = length-encode x.edition reset ∙ omega arith

none-laid : (x : Journal) → laid x [] ≡ buffer []
unfolding no_frame
none-laid x = refl

reset-laid : (x : Journal) (es : List Entry) → laid x (reset_bytes x es) ≡ buffer (reset_bytes x es)
reset-laid x [] = none-laid x
reset-laid x (e ∷ es) =
    rw (edition-back x.edition, lt-ltb 0 (length (encode x.edition reset)) (omega (arith, reset-length x)))

pub laid-is : (u : Upkeep) (x : Journal) → laid x (appends_for u x) ≡ buffer (appends_for u x)
laid-is rests x = none-laid x
laid-is mends x = reset-laid x (replay_of x).pending
laid-is moves x = none-laid x

-- ---- by what was kept

module _ {b : List ℕ} (x : Store) (h : Contents b x.journal) where
  abbrev j : Journal
  j = x.journal

  abbrev torn : List Write
  torn = torn_writes b (end_of j) (torn_len j.tail)

  writes_is : torn ≡ close_writes b (end_of j) j.tail
  writes_is = go j.tail refl
    where
      go : (c : Tail) → j.tail ≡ c → torn_writes b (end_of j) (torn_len c) ≡ close_writes b (end_of j) c
      go clean e = refl
      go (cut n) e = rw (ne_eqb n 0 (cut_not h e))
      go (bad f) e = refl

  settled : (c : Tail) → j.tail ≡ c → Okay c → (replay_of j).pending ≡ [] → mend_of false (closed_end j) torn 0 ≡ mend_for (for_tail c) b j
  settled clean f o e = let n : closed_end j ≡ end_of j = ap (λ (c : Tail). end_of j + torn_len c) f ∙ omega arith in rw (n, writes_is, f)
  settled (cut n) f o e = rw (writes_is, e)
  settled (bad d) f o e = absurd o

  abbrev by_code : List Entry → Mend
  by_code es =
      cond (some_of es && ltb (length b) (closed_end j + reset_len j.edition)) (mend_of true (end_of j) [] 0)
      (mend_of false (closed_end j) torn (cond (some_of es) (reset_len j.edition) 0))

  by_pending : (es : List Entry) → (replay_of j).pending ≡ es → by_code es ≡ mend_for (for_pending (length b) j es) b j
  by_pending [] e = settled j.tail refl h.okay e
  by_pending (p ∷ ps) e =
      on_test (ltb (length b) (closed_end j + reset_len j.edition)) (λ t. rw t) (λ t. rw (t, writes_is, e, reset-length j))

  pub mend_is : (same : Bool) → mend_in b (kept_of x same) ≡ mend_for (upkeep (length b) x) b j
  unfolding mend_in
  mend_is same = by_pending (replay_of j).pending refl
