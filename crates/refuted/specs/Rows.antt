-- Document 01's starred bench rows, S = 256, rows l, m and p; rows f and g as document 02, K11 has them, rows i to m as K7, row o's values as
-- K2: one table over a machine of two blocks.
use Rattle.std.specs.Prelude.{List, [], ◌∷◌, ◌++◌, ◌≡◌, ℕ, zero, suc, ◌+◌, take, drop, replicate, set}
use Rattle.flash.specs.Flash.{block}
use Rattle.frame.specs.declared.Edition.TheVariants as edition
use Rattle.frame.specs.Frame.{host_of, id_of}
use Rattle.journal.specs.Replay.{Object, State, state, object, replay}
use Rattle.journal.specs.Block.{block_state, frames_in, time_in}
use Rattle.journal.specs.Room.{claimed}
use Rattle.wire.specs.declared.Answer.{Answer}
use Rattle.wire.specs.declared.Answer.TheVariants.{Done, More, Refused}
use Rattle.wire.specs.declared.Refusal.TheVariants as refusal
use Rattle.board.specs.declared.Record.{Record}
use Rattle.board.specs.Record.{unmounted, no_places, rest, counting, idle, Out}
use Rattle.board.specs.Exec.{request, step, mount, format, Machine}

-- what a call and its steps give, and how many step calls it took
pub record Ran : Type 0 where
  pub steps : ℕ
  pub image : List ℕ
  pub board : Record
  pub answer : Answer

abbrev pub ran : ℕ → Out → Ran
ran c o = record { steps = c; image = o.image; board = o.board; answer = o.answer }

-- step calls while the answer is more, at most n
unfoldable pub drive : Machine → ℕ → ℕ → Out → Ran
drive m zero c o = ran c o
drive m (suc n) c o =
    elim o.answer [
      | Done ↦ ran c o
      | More ↦ drive m n (suc c) (m o.image o.board step)
      | Refused r ↦ ran c o
    ]

-- an image of 512 bytes that no store wrote
unfoldable pub returned : List ℕ
returned = replicate 512 0x5A

-- a request of host h, with a reply of 16 bytes; and with its steps made
unfoldable pub ask : Machine → Ran → ℕ → List ℕ → Out
ask m r h msg = m r.image r.board (request (host_of h) msg (replicate 16 0xEE))

unfoldable pub asked : Machine → Ran → ℕ → List ℕ → Ran
asked m r h msg = drive m 300 0 (ask m r h msg)

-- in a request, cut after n steps
unfoldable pub cut_in : Machine → Ran → ℕ → List ℕ → ℕ → List ℕ
cut_in m r h msg n = (drive m n 0 (ask m r h msg)).image

-- a mount after a power cut
unfoldable pub mounted : Machine → List ℕ → Ran
mounted m img = drive m 300 0 (m img unmounted mount)

-- what a block of a run replays to
unfoldable pub replayed : ℕ → Ran → State
replayed k r = replay (frames_in (block_state (block 256 k r.image)))

-- a block's creation time
unfoldable pub timed : ℕ → Ran → ℕ
timed k r = time_in (block_state (block 256 k r.image))

-- n bytes from a place on
unfoldable pub part : ℕ → ℕ → List ℕ → List ℕ
part at n l = take n (drop at l)

-- ---- the rows' givens

unfoldable pub row_a : Machine → Ran
row_a m = drive m 100 0 (m returned unmounted format)

unfoldable pub row_b : Machine → Ran
row_b m = asked m (row_a m) 2 (0x08 ∷ 0x00 ∷ 0x01 ∷ 0x01 ∷ 0x05 ∷ 0x00 ∷ 0x41 ∷ 0x42 ∷ [])

unfoldable pub commit_message : List ℕ
commit_message = 0x04 ∷ 0x00 ∷ 0x03 ∷ 0x01 ∷ []

unfoldable pub row_c : Machine → Ran
row_c m = asked m (row_b m) 2 commit_message

-- rows d and e are asked by a host that put nothing
unfoldable pub row_d : Machine → Out
row_d m = ask m (row_c m) 0 (0x06 ∷ 0x00 ∷ 0x05 ∷ 0x01 ∷ 0x05 ∷ 0x00 ∷ [])

unfoldable pub row_e : Machine → Out
row_e m = ask m (row_c m) 0 (0x05 ∷ 0x00 ∷ 0x06 ∷ 0x01 ∷ 0x01 ∷ [])

unfoldable pub row_f : Machine → Ran
row_f m = mounted m (row_b m).image

unfoldable pub row_g : Machine → Ran
row_g m = mounted m (cut_in m (row_b m) 2 commit_message 5)

unfoldable pub row_h : Machine → Ran
row_h m = mounted m (cut_in m (row_b m) 2 commit_message 6)

-- n bytes put to an id
unfoldable pub put_message : ℕ → ℕ → List ℕ
put_message i n = (6 + n) ∷ 0x00 ∷ 0x01 ∷ 0x01 ∷ i ∷ 0x00 ∷ replicate n 0x41

-- host 0 puts n bytes to an id. K7: "each put of i gets a commit"
unfoldable pub stores : Machine → Ran → ℕ → ℕ → Ran
stores m r i n = asked m (asked m r 0 (put_message i n)) 0 commit_message

unfoldable pub row_i : Machine → ℕ → Ran
row_i m last = stores m (stores m (stores m (row_a m) 1 64) 2 64) 3 last

unfoldable pub row_k : Machine → ℕ → Ran
row_k m last = asked m (row_i m last) 0 commit_message

-- row l in parts: "after i, commit, delete 1", "commit", "same put"
unfoldable pub delete_message : List ℕ
delete_message = 0x06 ∷ 0x00 ∷ 0x02 ∷ 0x01 ∷ 0x01 ∷ 0x00 ∷ []

unfoldable pub row_ldelete : Machine → Ran
row_ldelete m = asked m (row_k m 64) 0 delete_message

unfoldable pub row_l : Machine → Ran
row_l m = asked m (asked m (row_ldelete m) 0 commit_message) 0 (put_message 4 0)

-- K7: "m cuts that delete after 222 or 223 steps"
unfoldable pub row_m : Machine → ℕ → Ran
row_m m n = mounted m (cut_in m (row_k m 64) 0 delete_message n)

-- ids 1, 2 and 3, with 64 bytes each
unfoldable pub three : List Object
three = object (id_of 1) (replicate 64 0x41) ∷ object (id_of 2) (replicate 64 0x41) ∷ object (id_of 3) (replicate 64 0x41) ∷ []

-- "Row o's value cases become 240 and 241 on a 1,024-byte image": row a there, and a put of n bytes
unfoldable pub row_along : Machine → Ran
row_along m = drive m 100 0 (m (replicate 1024 0x5A) unmounted format)

unfoldable pub row_o : Machine → ℕ → Ran
row_o m n = asked m (row_along m) 0 (put_message 9 n)

-- a format's answer on an image of n bytes
unfoldable pub format_answer : Machine → ℕ → Answer
format_answer m n = (m (replicate n 0x5A) unmounted format).answer

-- ---- the table

-- K8: id i's frame starts at p, other ids have these places
abbrev pub at : ℕ → ℕ → List ℕ → List ℕ
at i p ps = set ps i p

-- objects 1 to 3 in their puts, and in the settled frames of a transfer
abbrev pub three_puts : List ℕ
three_puts = at 1 16 (at 2 94 (at 3 172 no_places))

abbrev pub three_settled : List ℕ
three_settled = at 1 16 (at 2 87 (at 3 158 no_places))

pub record Rows (m : Machine) : Type 0 where
  pub a_steps : (row_a m).steps ≡ 12
  pub a_done : (row_a m).board ≡ idle no_places (rest 2 511 0 16 1)
  pub a_half : part 0 16 (row_a m).image
      ≡ 0x10 ∷ 0x00 ∷ 0x01 ∷ 0x4A ∷ 0xFE ∷ 0xFF ∷ 0xFF ∷ 0xFF ∷ 0xFC ∷ 0xFF ∷ 0xFF ∷ 0xFF ∷ 0xFF ∷ 0xFF ∷ 0xFF ∷ 0xFF ∷ []
  pub a_rest : drop 16 (row_a m).image ≡ replicate 496 0xFF
  pub b_steps : (row_b m).steps ≡ 10
  -- the put's ten bytes are pending, host 2's
  pub b_done : (row_b m).board ≡ idle no_places (counting (rest 2 511 0 26 1) (0 ∷ 0 ∷ 10 ∷ 0 ∷ []))
  pub b_frame : part 16 10 (row_b m).image ≡ 0x0A ∷ 0x00 ∷ 0x01 ∷ 0x00 ∷ 0x02 ∷ 0x05 ∷ 0x00 ∷ 0x41 ∷ 0x42 ∷ 0xFE ∷ []
  pub c_steps : (row_c m).steps ≡ 6
  pub c_frame : part 26 6 (row_c m).image ≡ 0x06 ∷ 0x00 ∷ 0x03 ∷ 0x00 ∷ 0x02 ∷ 0xFE ∷ []
  pub c_end : (row_c m).board ≡ idle (at 5 16 no_places) (rest 2 511 0 32 1)
  pub c_rest : drop 32 (row_c m).image ≡ replicate 480 0xFF
  pub d_answer : (row_d m).answer ≡ Done
  pub d_place : (row_d m).stretch ≡ record { at = 23; size = 2 }
  pub e_answer : (row_e m).answer ≡ Done
  pub e_reply : (row_e m).reply
      ≡ 0x0E ∷ 0x00 ∷ 0x01 ∷ 0x02 ∷ 0x01 ∷ 0x00 ∷ 0x00 ∷ 0x00 ∷ 0x01 ∷ 0x00 ∷ 0x19 ∷ 0x00 ∷ 0x00 ∷ 0x01 ∷ 0xEE ∷ 0xEE ∷ []
  -- K11: "Row f becomes 5 steps and row g 7, both staying in half 0." The put ends at 26; in f a reset follows it
  pub f_steps : (row_f m).steps ≡ 5
  pub f_done : (row_f m).board ≡ idle no_places (rest 2 511 0 31 1)
  pub f_time : timed 0 (row_f m) ≡ 1
  pub f_reset : part 26 5 (row_f m).image ≡ 0x05 ∷ 0x00 ∷ 0x07 ∷ 0x00 ∷ 0xFE ∷ []
  pub f_rest : drop 31 (row_f m).image ≡ replicate 481 0xFF
  pub f_holds : replayed 0 (row_f m) ≡ state [] []
  -- in g the commit's five bytes are closed first: its kind's low byte and its finish byte must change
  pub g_steps : (row_g m).steps ≡ 7
  pub g_done : (row_g m).board ≡ idle no_places (rest 2 511 0 37 1)
  pub g_closed : part 26 6 (row_g m).image ≡ 0x06 ∷ 0x00 ∷ 0x00 ∷ 0x00 ∷ 0x02 ∷ 0xFE ∷ []
  pub g_reset : part 32 5 (row_g m).image ≡ 0x05 ∷ 0x00 ∷ 0x07 ∷ 0x00 ∷ 0xFE ∷ []
  pub g_rest : drop 37 (row_g m).image ≡ replicate 475 0xFF
  pub g_holds : replayed 0 (row_g m) ≡ state [] []
  pub h_steps : (row_h m).steps ≡ 0
  pub h_done : (row_h m).board ≡ idle (at 5 16 no_places) (rest 2 511 0 32 1)
  pub h_holds : replayed 0 (row_h m) ≡ state (object (id_of 5) (0x41 ∷ 0x42 ∷ []) ∷ []) []
  -- three puts of 72 bytes and three commits of 6 after the header's 16; C = U = 16 + 3·71
  pub i_accepted : (ask m (row_a m) 0 (put_message 1 64)).answer ≡ More
  pub i_done : (row_i m 64).board ≡ idle three_puts (rest 2 511 0 250 1)
  pub i_claimed : claimed edition.First (replayed 0 (row_i m 64)) ≡ 229
  -- 229 + 8 + 6 + 14 = 257; with 63 bytes in id 3 256. The commit of row k has nothing pending
  pub j : (ask m (row_i m 64) 0 (put_message 4 0)).answer ≡ Refused refusal.NoRoom
  pub k_commit : (row_k m 64).steps ≡ 0
  pub k_refused : (ask m (row_k m 64) 0 (put_message 4 0)).answer ≡ Refused refusal.NoRoom
  pub k_accepted : (ask m (row_k m 63) 0 (put_message 4 0)).answer ≡ More
  -- 250 + 8 > 256: C - 5 = 224 steps, then the delete's 8. Its frame ends at 229 + 8 and is pending
  pub l_transfer : (row_ldelete m).steps ≡ 232
  pub l_pending : (row_ldelete m).board ≡ idle three_settled (counting (rest 2 511 1 237 1) (8 ∷ 0 ∷ 0 ∷ 0 ∷ []))
  pub l_steps : (row_l m).steps ≡ 8
  -- beyond row l: what it leaves, byte for byte. The old half blank; the new one's header at time 2, the settled frames of ids 1, 2 and 3, 71
  -- bytes each, then delete, commit and put
  pub l_done : (row_l m).board ≡ idle (at 1 0 three_settled) (counting (rest 2 511 1 251 1) (8 ∷ 0 ∷ 0 ∷ 0 ∷ []))
  pub l_old : part 0 256 (row_l m).image ≡ replicate 256 0xFF
  pub l_header : part 256 16 (row_l m).image
      ≡ 0x10 ∷ 0x00 ∷ 0x01 ∷ 0x4A ∷ 0xFD ∷ 0xFF ∷ 0xFF ∷ 0xFF ∷ 0xFC ∷ 0xFF ∷ 0xFF ∷ 0xFF ∷ 0xFF ∷ 0xFF ∷ 0xFF ∷ 0xFF ∷ []
  pub l_settled_1 : part 272 71 (row_l m).image ≡ 0x47 ∷ 0x00 ∷ 0x05 ∷ 0x00 ∷ 0x01 ∷ 0x00 ∷ (replicate 64 0x41 ++ (0xFE ∷ []))
  pub l_settled_2 : part 343 71 (row_l m).image ≡ 0x47 ∷ 0x00 ∷ 0x05 ∷ 0x00 ∷ 0x02 ∷ 0x00 ∷ (replicate 64 0x41 ++ (0xFE ∷ []))
  pub l_settled_3 : part 414 71 (row_l m).image ≡ 0x47 ∷ 0x00 ∷ 0x05 ∷ 0x00 ∷ 0x03 ∷ 0x00 ∷ (replicate 64 0x41 ++ (0xFE ∷ []))
  pub l_delete : part 485 8 (row_l m).image ≡ 0x08 ∷ 0x00 ∷ 0x02 ∷ 0x00 ∷ 0x00 ∷ 0x01 ∷ 0x00 ∷ 0xFE ∷ []
  pub l_commit : part 493 6 (row_l m).image ≡ 0x06 ∷ 0x00 ∷ 0x03 ∷ 0x00 ∷ 0x00 ∷ 0xFE ∷ []
  pub l_put : part 499 8 (row_l m).image ≡ 0x08 ∷ 0x00 ∷ 0x01 ∷ 0x00 ∷ 0x00 ∷ 0x04 ∷ 0x00 ∷ 0xFE ∷ []
  pub l_rest : drop 507 (row_l m).image ≡ replicate 5 0xFF
  -- the 223rd step says 0xFC: before it the old half is current, after it the new one. The mount erases the other
  pub m_222_steps : (row_m m 222).steps ≡ 1
  pub m_222_done : (row_m m 222).board ≡ idle three_puts (rest 2 511 0 250 1)
  pub m_222_holds : replayed 0 (row_m m 222) ≡ state three []
  pub m_223_steps : (row_m m 223).steps ≡ 1
  pub m_223_done : (row_m m 223).board ≡ idle three_settled (rest 2 511 1 229 1)
  pub m_223_holds : replayed 1 (row_m m 223) ≡ state three []
  pub n : (ask m (row_a m) 0 (0x05 ∷ 0x00 ∷ 0x03 ∷ 0x01 ∷ [])).answer ≡ Refused refusal.Malformed
  pub o_240_steps : (row_o m 240).steps ≡ 248
  pub o_240_done : (row_o m 240).board ≡ idle no_places (counting (rest 2 1023 0 264 1) (248 ∷ 0 ∷ 0 ∷ 0 ∷ []))
  pub o_241 : (row_o m 241).answer ≡ Refused refusal.Malformed
  -- beyond row o, K7: where S is 256 a host's pending frames come to 128 bytes at most, so a value has 120 at most
  pub o_240_short : (ask m (row_a m) 0 (put_message 9 240)).answer ≡ Refused refusal.HostFull
  pub o_120_short : (ask m (row_a m) 0 (put_message 9 120)).answer ≡ More
  pub o_121_short : (ask m (row_a m) 0 (put_message 9 121)).answer ≡ Refused refusal.HostFull
  pub p_512 : format_answer m 512 ≡ More
  pub p_768 : format_answer m 768 ≡ More
  pub p_65536 : format_answer m 65536 ≡ More
  pub p_256 : format_answer m 256 ≡ Refused refusal.ImageLength
  pub p_511 : format_answer m 511 ≡ Refused refusal.ImageLength
  -- beyond row p: the first multiple of 256 past the longest
  pub p_over : format_answer m 65792 ≡ Refused refusal.ImageLength
