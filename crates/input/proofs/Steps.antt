-- One read into the middle of a buffer: the bytes that it gave follow those that stood before.
use Rattle.std.proofs.Common.{◌≡◌, ℕ, ◌+◌, ◌≤◌, List, ◌++◌, length, take, drop, sym, ap, subst, ◌∙◌, drop_at, length-take-le}
use Rattle.std.specs.Prelude.{Option}
use Rattle.std.specs.Io.KnownBytes.{Consumes}
use Rattle.std.proofs.KnownBytes.{Consumes-trans}
use borrow.Rule.Slice.PartMut.{put_mid, post_of, take_put}
use lib.Seq.{take-add, take-append-le}

take_more : (a k n : ℕ) (xs ys : List ℕ) → a ≤ length xs → n ≤ length ys → take (a + n) (put_mid a k xs ys) ≡ take a xs ++ take n ys
take_more a k n xs ys within fits =
    take-add a n (put_mid a k xs ys)
    ∙ ap (λ l. l ++ take n (drop a (put_mid a k xs ys))) (take_put a k xs ys within)
    ∙ ap (λ l. take a xs ++ l) (ap (take n) (drop_at (take a xs) (ys ++ post_of a k xs) a (length-take-le a xs within)) ∙ take-append-le n ys (post_of a k xs) fits)

pub consumes_more : (old mid new : Option (List ℕ)) (a k n : ℕ) (xs ys : List ℕ) → a ≤ length xs → n ≤ length ys
    → Consumes old mid (take a xs) → Consumes mid new (take n ys) → Consumes old new (take (a + n) (put_mid a k xs ys))
consumes_more old mid new a k n xs ys within fits before read =
    subst (Consumes old new) (sym (take_more a k n xs ys within fits)) (Consumes-trans old mid new _ _ before read)
