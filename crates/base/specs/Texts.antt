-- Lists with separators.
use Rattle.std.specs.Prelude.{List, [], ◌∷◌, ◌++◌, ℕ}

-- The lists one after the other, with the byte b between each two of them (document 01: "numbers are parted by one blank").
unfoldable pub parted : ℕ → List (List ℕ) → List ℕ
parted b [] = []
parted b (t ∷ []) = t
parted b (t ∷ u ∷ ts) = t ++ (b ∷ parted b (u ∷ ts))
