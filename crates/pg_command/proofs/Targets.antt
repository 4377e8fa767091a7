-- A word in the place of a target is a path or an id.
use Rattle.std.proofs.Common.{ℕ, ◌≡◌, ◌∙◌, List, [], ◌∷◌, ap, arith, refl, sym, subst}
use Rattle.pg_base.specs.Id.{Fits, letter, spelling}
use Rattle.pg_base.specs.declared.id.FileId.{FileId}
use Rattle.pg_base.specs.declared.id.Kind.{Kind}
use Rattle.pg_base.specs.declared.id.Kind.TheVariants.{Dir, File}
use Rattle.pg_call.proofs.CallTable.{byte_at}
use Rattle.pg_call.specs.Call.{HasSlash, IsTarget, target_word}
use Rattle.pg_call.specs.Fields.{IsWordOf}
use Rattle.pg_call.specs.Fields.Field.{AnyId, PathOrId}
use Rattle.pg_call.specs.declared.call.Target.{Target}
use Rattle.pg_call.specs.declared.call.Target.TheVariants as target
use Rattle.pg_words.specs.TextWord.{IsText}

no_slash : (kind : Kind) → 47 ≡ letter kind → ⊥
no_slash Dir e = absurd (omega arith)
no_slash File e = absurd (omega arith)

-- what begins as a path does is no id
pub no_id : (text : List ℕ) → HasSlash text → (id : FileId) → Fits id → text ≡ spelling id → ⊥
no_id [] slash id fits e = slash
no_id (byte ∷ bytes) slash id fits e =
    let first : byte ≡ letter id.kind = ap (byte_at 0) e in
    no_slash id.kind (sym slash ∙ first)

pub path_target : (word : List ℕ) → HasSlash word → IsText word → IsWordOf PathOrId word
path_target word slash text = (target.Path word, (text, slash), refl)

pub id_target : (word : List ℕ) → IsWordOf AnyId word → IsWordOf PathOrId word
id_target word h = (target.Id h.0, h.1, h.2)

text_of : (word : List ℕ) (what : Target) → HasSlash word → IsTarget what → word ≡ target_word what
    → IsText word
text_of word (target.Path path) slash h e = subst IsText (sym e) h.0
text_of word (target.Id id) slash h e = absurd (no_id word slash id h e)

pub text_of_target : (word : List ℕ) → HasSlash word → IsWordOf PathOrId word → IsText word
text_of_target word slash h = text_of word h.0 slash h.1 h.2

id_of : (word : List ℕ) (what : Target) → (HasSlash word → ⊥) → IsTarget what
    → word ≡ target_word what
    → IsWordOf AnyId word
id_of word (target.Path path) none h e = absurd (none (subst HasSlash (sym e) h.1))
id_of word (target.Id id) none h e = (id, h, e)

pub id_of_target : (word : List ℕ) → (HasSlash word → ⊥) → IsWordOf PathOrId word
    → IsWordOf AnyId word
id_of_target word none h = id_of word h.0 none h.1 h.2
