-- What the writer of a log keeps, and what that stands for.
use Rattle.std.specs.Prelude.{◌≡◌, ◌≤◌, ◌<◌, ◌+◌, ◌-◌, ◌^◌, drop, vec_len, vec_capacity}
use Rattle.ctr_log.specs.declared.log.LogFile.TheInside.{Inside}
use Rattle.ctr_log.specs.Logs.{Log, frames, unframed}

-- The buffer has room for a batch's first fields, and then the frames. Room is told for a buffer of
-- 2^34 bytes at most, whatever its capacity.
abbrev pub log_of : Inside → Log
log_of a = record {
  file = a.file;
  older = a.older;
  start = a.start;
  place = a.place;
  first = a.first;
  buffered = unframed a.count (drop 20 a.buffer.items);
  room = vec_capacity a.buffer - vec_len a.buffer - 1 - (vec_capacity a.buffer - 2 ^ 34);
}

-- A byte of room is left for the closed gate, and the buffer is short, so its records are fewer
-- than 2^32.
pub record IsWriter (a : Inside) : Type 0 where
  pub head : 20 ≤ vec_len a.buffer
  pub spare : vec_len a.buffer < vec_capacity a.buffer
  pub short : vec_len a.buffer < 2 ^ 34
  pub frames_are : drop 20 a.buffer.items ≡ frames (unframed a.count (drop 20 a.buffer.items))
  pub place : a.place < 2 ^ 63
  pub next : a.first + a.count < 2 ^ 64
