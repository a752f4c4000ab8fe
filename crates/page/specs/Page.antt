-- A page, and bytes written into it from a place on.
use Rattle.std.specs.Prelude.{ℕ, ◌+◌, ◌≤◌, ◌≡◌, List, ◌++◌, length, take, drop}
use Rattle.page.specs.declared.Page.{Page as Lent}

-- a page, and the place after what was written last
pub record Page : Type 0 where
  pub end : ℕ
  pub bytes : List ℕ

-- a page that is written up to r
abbrev pub written : ℕ → List ℕ → Page
written r bytes = record { end = r; bytes = bytes }

-- the page with l after what is written; all other bytes are unchanged
unfoldable pub onto : Page → List ℕ → Page
onto p l = record { end = p.end + length l; bytes = take p.end p.bytes ++ (l ++ drop (p.end + length l) p.bytes) }

-- the page with l from `at` on
abbrev pub puts : List ℕ → ℕ → List ℕ → Page
puts page at l = onto (written at page) l

-- the page has room for l after what is written
abbrev pub Holds : Lent → List ℕ → Type 0
Holds page l = page.len + length l ≤ length page.bytes.now

-- l was written after what was written before, and it is the same page. `end` and `long` follow from `wrote`: where more is written, they are what shows that
-- there is room.
pub record Adds (old new : Lent) (l : List ℕ) : Type 0 where
  pub wrote : written new.len new.bytes.now ≡ puts old.bytes.now old.len l
  pub end : new.len ≡ old.len + length l
  pub long : length new.bytes.now ≡ length old.bytes.now
  pub same : new.bytes.ghost_name ≡ old.bytes.ghost_name
