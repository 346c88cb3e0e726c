-- A queue of lines that drops what doesn't fit, and counts it.
use Rattle.std.specs.Prelude.{ℕ, ◌+◌, ◌-◌, ◌^◌, ◌==◌, ◌&&◌, Bool, List, ◌∷◌, [], ◌++◌, length, drop, map, sum}
use Rattle.std.specs.Prelude.{Option, Some, None, min, nat_lt, if◌then◌else◌}
use Rattle.ar_logging.specs.declared.queue.QueuedLine.{QueuedLine}

-- what a queue holds: its lines, the oldest first; how many lines were dropped after them; how many it has room for
pub record Queue : Type 0 where
  pub lines : List QueuedLine
  pub skipped : ℕ
  pub capacity : ℕ

-- an empty queue
abbrev pub empty : ℕ → Queue
empty capacity = record { lines = []; skipped = 0; capacity = capacity }

-- a queue once a line has come: it is the newest, or dropped and counted where there is no room
abbrev pub pushed : Queue → List ℕ → Queue
pushed q line =
    if nat_lt (length q.lines) q.capacity
    then record {
      lines = q.lines ++ record { skipped = q.skipped; line = line } ∷ [];
      skipped = 0;
      capacity = q.capacity;
    }
    else record { lines = q.lines; skipped = min (q.skipped + 1) (2 ^ 64 - 1); capacity = q.capacity }

-- the oldest line, and how many were dropped before it; where there is no line, how many were dropped since
abbrev pub next_of : List QueuedLine → ℕ → ℕ × Option (List ℕ)
next_of [] since = (since, None)
next_of (l ∷ _) since = (l.skipped, Some l.line)

-- what is taken from a queue
abbrev pub next_in : Queue → ℕ × Option (List ℕ)
next_in q = next_of q.lines q.skipped

-- the drops that are still to be reported behind the lines, once the next is taken
abbrev pub skipped_after : List QueuedLine → ℕ → ℕ
skipped_after [] since = 0
skipped_after (_ ∷ _) since = since

-- the queue without what was taken
abbrev pub popped : Queue → Queue
popped q = record {
  lines = drop 1 q.lines;
  skipped = skipped_after q.lines q.skipped;
  capacity = q.capacity;
}

-- a queue has nothing to take
abbrev pub is_drained : Queue → Bool
is_drained q = (length q.lines == 0) && (q.skipped == 0)

-- how many lines have come that aren't taken or reported as dropped yet
abbrev pub pending : Queue → ℕ
pending q = sum (map (λ l. l.skipped + 1) q.lines) + q.skipped

-- how many lines are in what is taken
abbrev pub taken_lines : ℕ × Option (List ℕ) → ℕ
taken_lines (n, None) = n
taken_lines (n, Some _) = n + 1
