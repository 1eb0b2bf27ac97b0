-- What one read more puts behind the bytes that are read already.
use Rattle.std.proofs.Common.{◌≡◌, ℕ, ◌+◌, ◌≤◌, List, ◌++◌, length, take, sym, ap, ◌∙◌, length-take-le}
use Rattle.std.proofs.lemmas.List.{take-append-le}
use Rattle.std.proofs.Math.Seq.{take-append-add}
use borrow.Rule.Slice.PartMut.{put_mid, post_of}

-- the front of a buffer whose first bytes were read, after n more were read into its rest
pub front_grown : (at rest n : ℕ) (old got : List ℕ) → at ≤ length old → n ≤ length got
    → take at old ++ take n got ≡ take (at + n) (put_mid at rest old got)
front_grown at rest n old got within fits =
    let read = take at old in
    let behind = got ++ post_of at rest old in
    ap (λ l. read ++ l) (sym (take-append-le n got (post_of at rest old) fits)) ∙ sym (take-append-add read behind n)
    ∙ ap (λ m. take (m + n) (read ++ behind)) (length-take-le at old within)
