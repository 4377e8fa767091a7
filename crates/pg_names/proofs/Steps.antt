-- The indexes after the steps of the program.
use Rattle.std.proofs.Common.{◌≡◌, ℕ, Bool, true, ◌&&◌, not, List, Some, refl, sym, ap, subst, ◌∙◌}
use Rattle.pg_base.specs.declared.id.FileId.{FileId}
use Rattle.pg_base.specs.Id.{is_same_file}
use Rattle.pg_register.specs.Flag.{IsByServer}
use Rattle.pg_index.specs.Ids.{ListsValue, ids_at, is_one_of}
use Rattle.pg_names.specs.declared.spots.Spots.{Spots}
use Rattle.pg_names.specs.Names.{InodeValue, NamesValue, known}
use Rattle.pg_names.specs.Indexed.{IsIndexed}
use Rattle.pg_names.specs.Tests.{is_found_calm}
use Rattle.pg_names.proofs.Changing.{grown_indexed}
use Rattle.pg_names.proofs.Frames.{IsGrown}
use Rattle.pg_names.proofs.Settling.{settled_indexed}

-- names that are the same
pub along : (s t : NamesValue) (d dirs : List FileId) (spots : Spots) (holders : ListsValue) → t ≡ s → IsIndexed s d dirs spots holders → IsIndexed t d dirs spots holders
along s t d dirs spots holders is ix = subst (λ n. IsIndexed n d dirs spots holders) (sym is) ix

-- marks alone
pub marks_more : (s : NamesValue) (d e dirs : List FileId) (spots : Spots) (holders : ListsValue) → IsGrown d e → IsIndexed s d dirs spots holders → IsIndexed s e dirs spots holders
marks_more s d e dirs spots holders grown ix = grown_indexed s d e dirs spots spots holders holders ix grown (λ live dir q. refl) (λ child q. refl)

-- a thing was found calm
pub settle_step : (s : NamesValue) (f : FileId) (d e dirs ids : List FileId) (spots : Spots) (holders : ListsValue) (count : ℕ) (b : Bool) → b ≡ is_found_calm s ids count f → ids ≡ ids_at holders f → b ≡ true
    → ((x : InodeValue) → known s f ≡ Some x → IsByServer x.own.flags)
    → ((q : FileId) → is_one_of q e ≡ (not (is_same_file f q) && is_one_of q d)) → IsIndexed s d dirs spots holders → IsIndexed s e dirs spots holders
settle_step s f d e dirs ids spots holders count b tests is holds rises less ix =
    settled_indexed s f d e dirs spots holders count (sym (tests ∙ ap (λ xs. is_found_calm s xs count f) is) ∙ holds) rises less ix
