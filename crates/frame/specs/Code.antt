-- Frames and reads as the code has them: without the value's bytes.
use Rattle.std.specs.Prelude.{List, [], ℕ, length, get_or, drop}
use Rattle.frame.specs.declared.Edition.{Edition}
use Rattle.frame.specs.declared.Head.{Head}
use Rattle.frame.specs.declared.Head.TheVariants as head
use Rattle.frame.specs.declared.FrameRead.{FrameRead}
use Rattle.frame.specs.declared.FrameRead.TheVariants as read
use Rattle.frame.specs.Frame.{Frame, change, commit, abort, settled, closed, reset, put, delete, put_value_at, settled_value_at, kind_at, body_at}
use Rattle.frame.specs.Frame.{put_len, delete_len, end_len, settled_len, closed_len, reset_len}
use Rattle.frame.specs.Reader.{Read, blank, whole, torn, wrong, decode}

-- a frame without its value's bytes
abbrev pub head_of : Frame → Head
head_of (change h (put i v)) = head.Put h i (length v)
head_of (change h (delete i)) = head.Delete h i
head_of (commit h) = head.Commit h
head_of (abort h) = head.Abort h
head_of (settled i v) = head.Settled i (length v)
head_of (closed v) = head.Closed (length v)
head_of reset = head.Reset

-- the head of the frame at an offset of a block, by its bytes for length, kind, host and id: nothing is tested
unfoldable pub peek_at : Edition → List ℕ → ℕ → Head
peek_at e b at = head_of (decode e (get_or (drop at b) kind_at 0) (get_or (drop at b) 0 0) (drop at b))

-- the value that a frame holds: none is empty
abbrev pub value_of : Frame → List ℕ
value_of (change h (put i v)) = v
value_of (change h (delete i)) = []
value_of (commit h) = []
value_of (abort h) = []
value_of (settled i v) = v
value_of (closed v) = v
value_of reset = []

-- the frame with these bytes for its value: the head's own count is not looked at
abbrev pub frame_of : Head → List ℕ → Frame
frame_of (head.Put h i n) v = change h (put i v)
frame_of (head.Delete h i) v = change h (delete i)
frame_of (head.Commit h) v = commit h
frame_of (head.Abort h) v = abort h
frame_of (head.Settled i n) v = settled i v
frame_of (head.Closed n) v = closed v
frame_of head.Reset v = reset

abbrev pub read_of : Read → FrameRead
read_of blank = read.Blank
read_of (whole f) = read.Whole (head_of f)
read_of (torn n) = read.Torn n
read_of (wrong e) = read.Wrong e

-- the length of a frame with this head
abbrev pub head_len : Edition → Head → ℕ
head_len e (head.Put h i n) = put_len e n
head_len e (head.Delete h i) = delete_len e
head_len e (head.Commit h) = end_len e
head_len e (head.Abort h) = end_len e
head_len e (head.Settled i n) = settled_len e n
head_len e (head.Closed n) = closed_len n
head_len e head.Reset = reset_len e

-- how many bytes its value has, and where in the frame they start
abbrev pub value_len_of : Head → ℕ
value_len_of (head.Put h i n) = n
value_len_of (head.Delete h i) = 0
value_len_of (head.Commit h) = 0
value_len_of (head.Abort h) = 0
value_len_of (head.Settled i n) = n
value_len_of (head.Closed n) = n
value_len_of head.Reset = 0

abbrev pub value_start : Head → ℕ
value_start (head.Put h i n) = put_value_at
value_start (head.Delete h i) = 0
value_start (head.Commit h) = 0
value_start (head.Abort h) = 0
value_start (head.Settled i n) = settled_value_at
value_start (head.Closed n) = body_at
value_start head.Reset = 0
