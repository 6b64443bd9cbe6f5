-- A part of a table that a read filled at its start. Assumes nothing.
use Rattle.std.proofs.Common.{◌≡◌, ℕ, ◌+◌, ◌≤◌, List, ◌++◌, length, take, sym, ap, ◌∙◌}
use Rattle.std.proofs.lemmas.List.{length-take-le}
use lib.Seq.{take-append-add, take-append-le}
use borrow.Rule.Slice.PartMut.{put_mid, post_of}

-- the part from `a` on came back as ys, of which the first n are new
pub taken_more : (a k n : ℕ) (xs ys : List ℕ) → a ≤ length xs → n ≤ length ys
    → take a xs ++ take n ys ≡ take (a + n) (put_mid a k xs ys)
taken_more a k n xs ys h l =
    let rest = ys ++ post_of a k xs in
    sym
    (ap (λ (m : ℕ). take (m + n) (take a xs ++ rest)) (sym (length-take-le a xs h))
    ∙ take-append-add (take a xs) rest n
    ∙ ap (λ (zs : List ℕ). take a xs ++ zs) (take-append-le n ys (post_of a k xs) l))
