-- Items in blocks.
use Rattle.std.specs.Prelude.{ℕ, ◌≡◌, ◌+◌, ◌<◌, List, [], ◌++◌, length, take, drop, slice_index_or, suc, remove}
use Rattle.std.specs.List.{flat_map}

-- the items of all blocks, one block behind the other
abbrev pub joined : {A : Type 0} → List (List A) → List A
joined blocks = flat_map (λ block. block) blocks

-- the items of all blocks, but for the one that stands in this block so far from its front
abbrev pub without : {A : Type 0} → List (List A) → ℕ → ℕ → List A
without blocks block offset =
    joined (take block blocks)
    ++ (remove (slice_index_or blocks block []) offset ++ joined (drop (suc block) blocks))

-- the item with this index among all stands in this block, so far from its front
pub record IsAt {A : Type 0} (blocks : List (List A)) (index block offset : ℕ) : Type 0 where
  pub there : block < length blocks
  pub within : offset < length (slice_index_or blocks block [])
  pub same : length (joined (take block blocks)) + offset ≡ index
