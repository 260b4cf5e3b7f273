-- K12's bounds see each wrong store of WrongWear alone: two by a run whose sum is too large, one by a step that is none of its job's.
use mathlib.Core.Path.{◌≡◌, refl, sym, ap, subst, subst₂, ◌∙◌}
use mathlib.Core.List.{List, [], ◌∷◌, ◌++◌}
use mathlib.Core.Option.{Option, none, some}
use mathlib.Core.Bool.{Bool, true, false, not, ◌&&◌}
use Prim.Native.Nat.{ℕ, ◌+◌, ◌-◌, ◌*◌, ◌≤◌}
use native.Mathlib.Nat.{one-mul}
use native.Mathlib.Omega.{arith}
use lib.Dec.{leb}
use lib.ListN.{length, get_or, replicate}
use borrow.Author.Tests.{leb-true}
use Rattle.flash.specs.Bytes.{all_ff, same_bytes_of}
use Rattle.flash.specs.Flash.{numbers_from, size_in, size_of, Step, program, apply_all, writes}
use Rattle.crc.specs.Crc.{shift32, shifted32, crc32_from}
use Rattle.frame.specs.declared.Edition.TheVariants as edition
use Rattle.frame.specs.Frame.{host_of, id_of, put, Frame, change, encode_all, total}
use Rattle.frame.specs.Reader.{clean, host_layout, layout_of, match, read_frame, scan}
use Rattle.journal.specs.Replay.{insert, remove, lookup, change_all, list_of, without, is_open_of, replay_from}
use Rattle.journal.specs.Block.{edition_in, header_fault, block_state, changing}
use Rattle.journal.specs.Room.{no_room_of, host_full}
use Rattle.journal.specs.Index.{sited, places_from, since_from, value_at, next_settled, next_pending, next_load_of}
use Rattle.wire.specs.Message.{parse, Parsed}
use Rattle.board.specs.Record.{allowed, no_places, no_frame}
use Rattle.board.specs.Step.{enter_append, enter_drop, enter_copy, enter_open, enter_close, enter_wipe, advance, step_busy, step_on}
use Rattle.board.specs.Mount.{mount_at, mount_found, mount_on}
use Rattle.board.specs.Queue.{fits_record, held, append, serve_change, serve_end, convert, serve_convert, serve, request_on, read_at, read_place}
use Rattle.flash.proofs.Cases.{and_left, and_right, clash}
use Rattle.journal.specs.Block.{Journal, journal}
use Rattle.wire.specs.declared.Answer.TheVariants.{More}
use Rattle.std.specs.Prelude.{Some, None}
use Rattle.wire.specs.declared.Request.TheVariants.{Put, Delete, Commit, Abort, Read, Log, Convert}
use Rattle.wire.specs.Sentences.{Means, MessagesExact}
use Rattle.wire.proofs.Sentences.{messages_exact}
use Rattle.board.specs.declared.Record.{Record}
use Rattle.board.specs.Record.{rest, idle, Out}
use Rattle.board.specs.Mount.{claimed_of}
use Rattle.board.specs.Exec.{Machine, Call, request, step, mount, format}
use Rattle.board.specs.Plan.{Work, frame_work}
use Rattle.board.specs.Table.{FreshExact, task_for}
use Rattle.board.specs.Promise.{Job, frame_job, convert-job}
use Rattle.board.specs.Wear.{LeavesToDo, begins, goes_on, Does, image_after}
use Rattle.board.specs.Endurance.{rose, Tally, no_tally, tally, RequestRun, ClaimedAtMost, Endures, Enduring}
use Rattle.board.proofs.Freshness.{fresh-exact}
use Rattle.board.proofs.Fitting.{the_frame}
use Rattle.board.proofs.Reading.{is_request}
use Rattle.refuted.specs.Wrong.{off_bench}
use Rattle.refuted.specs.WrongWear.{transfers_always, transfers_half_full, erases_target}
use Rattle.refuted.specs.WrongRuns.{all_bytes, block_of, half, blank_half, stored, nearly_full, aborted, filler, stepping, put_empty, put_cd, puts, aborts}
use Rattle.refuted.specs.WearSeen.{over_half, WearSeen}
use Rattle.refuted.specs.PlaceRuns.{placed}
use Rattle.refuted.proofs.Refuting.{bytes-all}

-- ---- runs, tested

abbrev is_convert : Parsed → Bool
is_convert None = false
is_convert (Some (Put i)) = false
is_convert (Some (Delete i)) = false
is_convert (Some Commit) = false
is_convert (Some Abort) = false
is_convert (Some (Read i)) = false
is_convert (Some (Log p)) = false
is_convert (Some Convert) = true

-- messages are bytes and no converts
abbrev messages_in : List Call → Bool
messages_in [] = true
messages_in (request h msg reply ∷ cs) = (all_bytes msg && not (is_convert (parse msg))) && messages_in cs
messages_in (step ∷ cs) = messages_in cs
messages_in (mount ∷ cs) = false
messages_in (format ∷ cs) = false

no-convert : (msg : List ℕ) → not (is_convert (parse msg)) ≡ true → Means msg Convert → ⊥
unfolding MessagesExact
no-convert msg e w = let t = subst (λ (q : Parsed). not (is_convert q) ≡ true) ((messages_exact msg Convert).1 w) e in clash false t refl

is_run : (m : Machine) (img : List ℕ) (r : Record) (cs : List Call) → messages_in cs ≡ true → RequestRun m img r cs
is_run m img r [] e = tt
is_run m img r (request h msg reply ∷ cs) e =
    let a : (all_bytes msg && not (is_convert (parse msg))) ≡ true = and_left (all_bytes msg && not (is_convert (parse msg))) (messages_in cs) e in (
      bytes-all msg (and_left (all_bytes msg) (not (is_convert (parse msg))) a),
      λ _. no-convert msg (and_right (all_bytes msg) (not (is_convert (parse msg))) a),
      is_run m _ _ cs (and_right (all_bytes msg && not (is_convert (parse msg))) (messages_in cs) e),
    )
is_run m img r (step ∷ cs) e = is_run m _ _ cs e
is_run m img r (mount ∷ cs) e = absurd (clash false e refl)
is_run m img r (format ∷ cs) e = absurd (clash false e refl)

-- C is at most this wherever a request is made of an image that passes refusal 11
abbrev claims_in : ℕ → Option Journal → Bool
claims_in most none = true
claims_in most (some x) = leb (claimed_of x) most

abbrev claims_test : ℕ → Machine → ℕ → List ℕ → Record → List Call → Bool
claims_test N m most img r [] = true
claims_test N m most img r (request h msg reply ∷ cs) =
    let o : Out = m img r (request h msg reply) in
    ((all_bytes img && allowed N (length img)) && claims_in most (held N img r)) && claims_test N m most o.image o.board cs
claims_test N m most img r (step ∷ cs) = let o : Out = m img r step in claims_test N m most o.image o.board cs
claims_test N m most img r (mount ∷ cs) = false
claims_test N m most img r (format ∷ cs) = false

claims-are : (N : ℕ) (m : Machine) (most : ℕ) (img : List ℕ) (r : Record) (cs : List Call) → claims_test N m most img r cs ≡ true
    → ClaimedAtMost N m most img r cs
unfolding FreshExact
claims-are N m most img r [] e = tt
claims-are N m most img r (request h msg reply ∷ cs) e =
    let o : Out = m img r (request h msg reply) in
    let t : Bool = claims_test N m most o.image o.board cs in
    let a = and_left ((all_bytes img && allowed N (length img)) && claims_in most (held N img r)) t e in
    let b = and_left (all_bytes img && allowed N (length img)) (claims_in most (held N img r)) a in
    let c = and_right (all_bytes img && allowed N (length img)) (claims_in most (held N img r)) a in (
      λ _ x v _. leb-true (claimed_of x) most
          (subst (λ (k : Option Journal). claims_in most k ≡ true)
          ((fresh-exact N img r x (bytes-all img (and_left (all_bytes img) (allowed N (length img)) b)) (and_right (all_bytes img) (allowed N (length img)) b)).1 v) c),
      claims-are N m most o.image o.board cs (and_right ((all_bytes img && allowed N (length img)) && claims_in most (held N img r)) t e),
    )
claims-are N m most img r (step ∷ cs) e = claims-are N m most _ _ cs e
claims-are N m most img r (mount ∷ cs) e = absurd (clash false e refl)
claims-are N m most img r (format ∷ cs) e = absurd (clash false e refl)

-- ---- a transfer at every frame

abbrev always : Machine
always = off_bench transfers_always 2

abbrev first : Record
first = idle placed (rest 2 767 0 32 1)

-- C = 25: 20 steps, and the put's eight; C = 33: 28 steps
abbrev two_puts : List Call
two_puts = put_empty 7 ∷ stepping 28 (put_empty 7 ∷ stepping 28 [])

record Twice : Type 0 where
  bytes : all_bytes stored ≡ true
  fits : allowed 2 (length stored) ≡ true
  counts : tally always stored first no_tally two_puts ≡ record { erases = 2; bytes = 16; caused = 8; frame = 8 }
  claims : claims_test 2 always 33 stored first two_puts ≡ true
  size : size_of 2 stored ≡ 384

twice-done : Twice
unfolding numbers_from size_in allowed all_ff same_bytes_of apply_all writes shift32 shifted32 crc32_from encode_all total host_layout layout_of match read_frame scan
    insert remove lookup change_all list_of without is_open_of replay_from edition_in header_fault block_state changing no_room_of host_full sited places_from since_from
    value_at next_settled next_pending next_load_of parse no_places no_frame enter_append enter_drop enter_copy enter_open enter_close enter_wipe advance step_busy step_on
    mount_at mount_found mount_on fits_record held append serve_change serve_end convert serve_convert serve read_at read_place request_on half blank_half stored
    nearly_full over_half transfers_always transfers_half_full erases_target rose
twice-done = record { bytes = refl; fits = refl; counts = refl; claims = refl; size = refl }

-- the bound that a run breaks
too_many : {x b c : ℕ} (t : Tally) → t ≡ record { erases = 2; bytes = b; caused = c; frame = 8 } → (t.erases - 1) * x ≤ t.bytes + t.caused
    → x ≤ b + c
too_many {x = x} t e h =
    let y = subst (λ (k : Tally). (k.erases - 1) * x ≤ k.bytes + k.caused) e h in omega (arith, y, one-mul x)

transfers-always : Enduring 2 always → ⊥
unfolding Enduring parse
transfers-always p =
    let w : Endures 2 always stored first two_puts =
    p stored first two_puts (bytes-all stored twice-done.bytes) twice-done.fits tt (is_run always stored first two_puts refl) in
    let h = too_many (tally always stored first no_tally two_puts) twice-done.counts
    (w.strong 33 (claims-are 2 always 33 stored first two_puts twice-done.claims)) in
    omega (arith, h, twice-done.size)

-- ---- a transfer from half a block on

abbrev half_full : Machine
half_full = off_bench transfers_half_full 3

-- three blocks of 256 bytes, a closed frame up to 122
unfoldable thirds : List ℕ
thirds = block_of edition.First 256 1 (filler 106 ∷ []) ++ replicate 512 0xFF

abbrev third : Record
third = idle no_places (rest 3 767 0 122 1)

-- 130 > 128: a transfer of eleven steps, and the put's eight; a put of 98 bytes, aborted, ends at 128; the next put makes a transfer
abbrev refilled : List Call
refilled = put_empty 7 ∷ stepping 19 (puts 2 90 ∷ stepping 98 (aborts ∷ stepping 6 (put_empty 7 ∷ stepping 11 [])))

record Refilled : Type 0 where
  bytes : all_bytes thirds ≡ true
  fits : allowed 3 (length thirds) ≡ true
  counts : tally half_full thirds third no_tally refilled ≡ record { erases = 2; bytes = 120; caused = 8; frame = 8 }
  claims : claims_test 3 half_full 122 thirds third refilled ≡ true
  size : size_of 3 thirds ≡ 256

refilled-done : Refilled
unfolding numbers_from size_in allowed all_ff same_bytes_of apply_all writes shift32 shifted32 crc32_from encode_all total host_layout layout_of match read_frame scan
    insert remove lookup change_all list_of without is_open_of replay_from edition_in header_fault block_state changing no_room_of host_full sited places_from since_from
    value_at next_settled next_pending next_load_of parse no_places no_frame enter_append enter_drop enter_copy enter_open enter_close enter_wipe advance step_busy step_on
    mount_at mount_found mount_on fits_record held append serve_change serve_end convert serve_convert serve read_at read_place request_on half blank_half stored
    nearly_full over_half transfers_always transfers_half_full erases_target rose thirds
refilled-done = record { bytes = refl; fits = refl; counts = refl; claims = refl; size = refl }

transfers-half-full : Enduring 3 half_full → ⊥
unfolding Enduring parse
transfers-half-full p =
    let w : Endures 3 half_full thirds third refilled =
    p thirds third refilled (bytes-all thirds refilled-done.bytes) refilled-done.fits tt (is_run half_full thirds third refilled refl) in
    let h = too_many (tally half_full thirds third no_tally refilled) refilled-done.counts
    (w.strong 122 (claims-are 3 half_full 122 thirds third refilled refilled-done.claims)) in
    omega (arith, h, refilled-done.size)

-- ---- the block that a transfer goes to is erased first

abbrev wiping : Machine
wiping = off_bench erases_target 2

abbrev late : Record
late = idle no_places (rest 2 767 0 376 1)

-- 376 + 10 > 384
abbrev one_step : List Call
one_step = put_cd ∷ step ∷ []

abbrev held-there : Journal
held-there = journal edition.First 1 (aborted ++ aborted) clean

abbrev frame-put : Frame
frame-put = change (host_of 2) (put (id_of 5) (0x43 ∷ 0x44 ∷ []))

-- the job's first step is a transfer's: byte 8 to 0xFE; the store erases a blank block, which changes nothing
record Wiped : Type 0 where
  bytes : all_bytes nearly_full ≡ true
  fits : allowed 2 (length nearly_full) ≡ true
  holds : held 2 nearly_full late ≡ some held-there
  parsed : parse (0x08 ∷ 0x00 ∷ 0x01 ∷ 0x01 ∷ 0x05 ∷ 0x00 ∷ 0x43 ∷ 0x44 ∷ []) ≡ Some (Put (id_of 5))
  answers : (wiping nearly_full late put_cd).answer ≡ More
  others : List Step
  plan : (frame_work 2 nearly_full late held-there frame-put).steps ≡ program 1 8 0xFE ∷ others
  kept : get_or (image_after wiping nearly_full late one_step) 392 0 ≡ 0xFF
  done : get_or (apply_all (size_of 2 nearly_full) (program 1 8 0xFE ∷ []) nearly_full) 392 0 ≡ 0xFE

wiped-done : Wiped
unfolding numbers_from size_in allowed all_ff same_bytes_of apply_all writes shift32 shifted32 crc32_from encode_all total host_layout layout_of match read_frame scan
    insert remove lookup change_all list_of without is_open_of replay_from edition_in header_fault block_state changing no_room_of host_full sited places_from since_from
    value_at next_settled next_pending next_load_of parse no_places no_frame enter_append enter_drop enter_copy enter_open enter_close enter_wipe advance step_busy step_on
    mount_at mount_found mount_on fits_record held append serve_change serve_end convert serve_convert serve read_at read_place request_on half blank_half stored
    nearly_full over_half transfers_always transfers_half_full erases_target
wiped-done =
    record {
      bytes = refl;
      fits = refl;
      holds = refl;
      parsed = refl;
      answers = refl;
      others = _;
      plan = refl;
      kept = refl;
      done = refl;
    }

one-held : {x y : Journal} → some x ≡ some y → x ≡ y
one-held e = cc

-- whichever steps the calls do, the first is that
only_step : (w : Work) → Job 2 nearly_full late put_cd w → (zs : List Step) × (w.steps ≡ program 1 8 0xFE ∷ zs)
unfolding FreshExact MessagesExact
only_step w (frame_job h msg reply x q f v means task) =
    let e : x ≡ held-there =
    one-held (sym ((fresh-exact 2 nearly_full late x (bytes-all nearly_full wiped-done.bytes) wiped-done.fits).1 v) ∙ wiped-done.holds) in
    let d : q ≡ Put (id_of 5) = is_request (sym ((messages_exact msg q).1 means) ∙ wiped-done.parsed) in
    let g : frame-put ≡ f = the_frame (sym (ap (task_for (host_of 2) msg x) d) ∙ task) in (
      wiped-done.others,
      subst₂ (λ (y : Journal) (k : Frame). (frame_work 2 nearly_full late y k).steps ≡ program 1 8 0xFE ∷ wiped-done.others) (sym e) g wiped-done.plan,
    )
only_step w (convert-job h msg reply x q v means task) = (_, refl)

erases-target : Enduring 2 wiping → ⊥
unfolding Enduring parse
erases-target p = go w.worked.some.0 w.worked.some.1
  where
    w : Endures 2 wiping nearly_full late one_step
    w = p nearly_full late one_step (bytes-all nearly_full wiped-done.bytes) wiped-done.fits tt (is_run wiping nearly_full late one_step refl)

    begun : (after xs : List Step) → LeavesToDo 2 wiping nearly_full late [] put_cd after
        → Does 2 wiping (wiping nearly_full late put_cd).image (wiping nearly_full late put_cd).board after (step ∷ []) xs → xs ≡ program 1 8 0xFE ∷ []
    begun after xs (goes_on n) d = absurd (n wiped-done.answers)
    begun after xs (begins v a j) d =
        let q = only_step v j in
        let y = subst
        (λ (l : List Step). Does 2 wiping (wiping nearly_full late put_cd).image (wiping nearly_full late put_cd).board l (step ∷ []) xs) q.1 d in
        y.1 ∙ ap (λ (l : List Step). program 1 8 0xFE ∷ l) y.2

    go : (xs : List Step) → Does 2 wiping nearly_full late [] one_step xs → ⊥
    go xs d =
        let e : xs ≡ program 1 8 0xFE ∷ [] = begun d.0 xs d.1 d.2 in
        let i = w.worked.image xs d ∙ ap (λ (l : List Step). apply_all (size_of 2 nearly_full) l nearly_full) e in
        let k = ap (λ (l : List ℕ). get_or l 392 0) i in
        let z : ◌≡◌ {A = ℕ} 0xFF 0xFE = sym wiped-done.kept ∙ k ∙ wiped-done.done in omega (arith, z)

pub wear-seen : WearSeen
wear-seen = record { transfers-always = transfers-always; transfers-half-full = transfers-half-full; erases-target = erases-target }
