-- At the start each server is sound: it holds the root alone, and intends nothing.
use Rattle.std.proofs.Common.{[], ℕ, suc, zero, ◌≡◌, ◌≤◌, Bool, true, false, cond, List, None, Some, All, refl, sym, subst, inl, arith}
use Rattle.std.specs.List.{IsDistinct}
use Rattle.std.specs.List.Sorted.{IsStrictlySortedBy}
use Rattle.std.specs.Map.{keys_of}
use Rattle.std.proofs.lemmas.Bool.{false≢true}
use Rattle.std.proofs.lemmas.List.Elements.{All-nil}
use Rattle.std.proofs.lemmas.Option.{none-some, same_Some}
use Rattle.law_frame.specs.pg_run.pg_base.declared.id.FileId.{FileId}
use Rattle.law_frame.specs.pg_run.pg_base.Id.{file_cmp, is_same_file}
use Rattle.law_frame.proofs.pg_run.pg_base.Entries.{IsStrictlySortedBy-insert_entry}
use Rattle.law_frame.proofs.pg_run.pg_base.Orders.{file_total, is_same_file-true}
use Rattle.law_frame.specs.pg_run.pg_intent.declared.intent.Intent.{Intent}
use Rattle.law_frame.specs.pg_run.pg_intent.Intents.{HaveOwnKeys}
use Rattle.law_frame.specs.pg_run.pg_names.declared.attributes.Attributes.{Attributes}
use Rattle.law_frame.specs.pg_run.pg_names.Names.{InodeValue, own_at, own_of}
use Rattle.law_frame.specs.pg_run.pg_register.Place.{root, root_place}
use Rattle.law_frame.specs.pg_run.pg_store.Start.{first_flag, first_flags, first_names, root_own}
use Rattle.law_frame.specs.pg_run.pg_store.Store.{new_store}
use Rattle.law_frame.proofs.pg_run.pg_store.Wishing.{start_births}
use Rattle.law_frame.proofs.pg_run.theory_flood_pieces.Start.{Root, first_sorted, no_entry, start_whole}
use Rattle.law_order.specs.Named.{IsOfServer, IsWell, naming}
use Rattle.law_order.specs.Saying.{IsIntended, IsSaidOwn}
use Rattle.law_order.specs.Sound.{AreTidy}
use Rattle.law_order.proofs.Ended.{IsAtRest}
use Rattle.law_order.proofs.FlagsSay.{all_join}
use Rattle.law_order.proofs.Settled.{settled_first}
use Rattle.law_order.proofs.Tidy.{IsInOrder, none_sorted}

abbrev NoIntents : List Intent
NoIntents = []

none_intended : HaveOwnKeys NoIntents
unfolding IsDistinct
none_intended = tt

abbrev NoneHeld : List (FileId × InodeValue)
NoneHeld = []

none_held : IsStrictlySortedBy file_cmp (keys_of NoneHeld)
unfolding IsStrictlySortedBy
none_held = tt

root_known : (n : ℕ) (x : InodeValue) (t : Bool) → cond t (Some (Root n)) None ≡ Some x → x ≡ Root n
root_known n x true h = sym (same_Some (Root n) x h)
root_known n x false h = absurd (none-some x h)

root_by : (n : ℕ) (f : FileId) (b : Attributes) (t : Bool) → is_same_file f root ≡ t → own_of (cond t (Some (Root n)) None) ≡ Some b → (f ≡ root) × (b ≡ root_own n)
root_by n f b true e h = (is_same_file-true f root e, sym (same_Some (root_own n) b h))
root_by n f b false e h = absurd (none-some b h)

pub root_only : (n s : ℕ) (f : FileId) (b : Attributes) → own_at (first_names n s) f ≡ Some b → (f ≡ root) × (b ≡ root_own n)
root_only n s f b h = root_by n f b (is_same_file f root) refl h

pub first_tidy : (n s : ℕ) → AreTidy (first_names n s)
first_tidy n s = record {
  ordered = λ d x h. subst IsInOrder (sym (root_known n x (is_same_file d root) h)) none_sorted;
  keys = IsStrictlySortedBy-insert_entry file_cmp file_total root (Root n) NoneHeld none_held;
  top = refl;
}

-- ---- what is said of the root

least_of : (k n : ℕ) → suc k ≤ n → (1 ≤ suc k) × (k ≤ n)
least_of k n h = (omega arith, omega arith)

flags_first : (n m : ℕ) → m ≤ n → All (IsOfServer n) (first_flags m)
flags_first n zero h = All-nil (IsOfServer n)
flags_first n (suc k) h =
    all_join (IsOfServer n) (first_flags k) (first_flag (suc k)) (record { least = (least_of k n h).0; most = h }) (flags_first n k (least_of k n h).1)

root_well : (n : ℕ) (files : ℕ → ℕ) → IsWell n files root root_place
root_well n files = record { parent = inl refl; dir = refl; first = λ e. refl; name = λ apart. absurd (false≢true (sym apart)) }

itself : (n : ℕ) → n ≤ n
itself n = omega arith

root_said : (n : ℕ) (files : ℕ → ℕ) → IsSaidOwn (naming n files) root (root_own n)
root_said n files = record { thing = inl refl; place = root_well n files; flags = flags_first n n (itself n); order = first_sorted n }

-- AT THE START
pub first_rest : (n : ℕ) (files : ℕ → ℕ) (s : ℕ) → IsAtRest (naming n files) n s (new_store n s)
first_rest n files s = record {
  sound = record {
    whole = start_whole n s;
    births = start_births n s;
    keys = none_intended;
    named = record {
      tidy = first_tidy n s;
      said = record {
        own = λ f b h. (let r = root_only n s f b h in
            let P : FileId → Type 0 = λ x. IsSaidOwn (naming n files) x b in
            let Q : Attributes → Type 0 = λ o. IsSaidOwn (naming n files) root o in
            subst P (sym r.0) (subst Q (sym r.1) (root_said n files)));
        cells = λ d g c h. absurd (no_entry n g c (is_same_file d root) h);
      };
      intents = All-nil (IsIntended (naming n files));
    };
  };
  fills = λ file. refl;
  settled = settled_first n s;
}
