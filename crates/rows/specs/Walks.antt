-- The next row of a list. Assumes nothing.
use Rattle.std.specs.Prelude.{ℕ, ◌+◌, min, cond, List, leb, length, drop, Option, Some, None}
use Rattle.io_parts.specs.Feeds.{before_feed}
use Rattle.rows.specs.declared.Row.{Row}

-- the row that begins at a place ends at the next line feed, or with the list; the next begins behind that line feed
unfoldable pub next_row_of : List ℕ → ℕ → Option Row
next_row_of list at =
    let n = before_feed (drop at list) in
    cond (leb (length list) at) None (Some (record { len = n; next = min (min (at + n) (length list) + 1) (length list) }))
