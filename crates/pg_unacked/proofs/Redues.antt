-- What is due of a file once its edges changed.
use Rattle.std.proofs.Common.{ℕ, ◌≡◌, true, not, ◌==◌, ◌&&◌, ◌||◌, List, sym, ap, subst, ◌∙◌}
use Rattle.pg_base.specs.declared.id.FileId.{FileId}
use Rattle.pg_base.specs.Id.{is_same_file}
use Rattle.pg_edges.specs.declared.edge.Edge.{Edge}
use Rattle.pg_edges.specs.declared.key.Key.{Key}
use Rattle.pg_edges.specs.Key.{is_same_key}
use Rattle.pg_edges.specs.Edges.{are_clean, new_edge, put_edge, retired, taken_off, touched, without_edge}
use Rattle.pg_unacked.specs.declared.due.Due.{Due}
use Rattle.pg_unacked.specs.Due.{UnackedValue, has_due}
use Rattle.pg_unacked.specs.Changes.{AreDueOf, OthersStay, Redues, due_at}
use Rattle.pg_unacked.specs.Owes.{is_key_of, is_to}
use Rattle.pg_unacked.proofs.EdgeKeys.{ordered-clean, ordered-made, ordered-retired, ordered-taken_off, ordered-touched, ordered-without_edge, owes-clean, owes-made, owes-retired, owes-taken_off, owes-touched, owes-without_edge}
use Rattle.pg_unacked.proofs.DueKeys.{Goes, KeyCame, KeyWent, file_others, file_own, go_others, go_own, one_file_others, one_file_own}

pub redues_same : {u v : UnackedValue} (file : FileId) {es fs : List Edge} → ((p : ℕ) (d : Due) → has_due v p d ≡ has_due u p d) → fs ≡ es → Redues u v file es fs
redues_same {u} {v} file {es} same is =
    subst (λ (xs : List Edge). Redues u v file es xs) (sym is) (record {
      others = λ p d other. same p d;
      own = λ k. record { due = λ p key. same p (due_at file key) ∙ k.due p key; ordered = k.ordered };
    })

module _ {u v : UnackedValue} (file : FileId) (es fs : List Edge) where
  -- the key is touched
  pub redues_touched : (key : Key) (t : ℕ) → OthersStay u v file
      → KeyCame u v file key es → fs ≡ touched es key t → Redues u v file es fs
  redues_touched key t others came is =
      subst (λ (xs : List Edge). Redues u v file es xs) (sym is) (record {
        others = others;
        own = λ was. record {
          due = λ p k. came p k ∙ ap (λ b. (is_to es p && is_same_key key k) || b) (was.due p k) ∙ sym (owes-touched es key t p k);
          ordered = λ p. ordered-touched es key t p (was.ordered p);
        };
      })

  -- the key leaves every edge
  pub redues_retired : (key : Key) → OthersStay u v file → KeyWent u v file key es → fs ≡ retired es key → Redues u v file es fs
  redues_retired key others went is =
      subst (λ (xs : List Edge). Redues u v file es xs) (sym is) (record {
        others = others;
        own = λ was. record {
          due = λ p k. went p k ∙ ap (λ b. not (is_to es p && is_same_key key k) && b) (was.due p k) ∙ sym (owes-retired es key p k);
          ordered = λ p. ordered-retired es key p (was.ordered p);
        };
      })

  -- an edge comes, in the place of an older one
  pub redues_made : (w : UnackedValue) (peer birth : ℕ) (ks : List Key) (t : ℕ)
      → ((p : ℕ) (d : Due) → has_due w p d ≡ (not (peer == p && is_same_file file d.file) && has_due u p d)) → OthersStay w v file
      → ((p : ℕ) (k : Key) → has_due v p (due_at file k) ≡ ((peer == p && is_key_of k ks) || has_due w p (due_at file k)))
      → fs ≡ put_edge es (new_edge peer birth ks t) → Redues u v file es fs
  redues_made w peer birth ks t went others came is =
      subst (λ (xs : List Edge). Redues u v file es xs) (sym is) (record {
        others = λ p d other. others p d other ∙ one_file_others u w peer file went p d other;
        own = λ was. record {
          due = λ p k.
              came p k
              ∙ ap (λ b. (peer == p && is_key_of k ks) || b) (one_file_own u w peer file went p k ∙ ap (λ b. not (peer == p) && b) (was.due p k))
              ∙ sym (owes-made es peer birth ks t p k);
          ordered = λ p. ordered-made es peer birth ks t p (was.ordered p);
        };
      })

  -- an edge goes
  pub redues_out : (peer : ℕ) → ((p : ℕ) (d : Due) → has_due v p d ≡ (not (peer == p && is_same_file file d.file) && has_due u p d))
      → fs ≡ without_edge es peer → Redues u v file es fs
  redues_out peer went is =
      subst (λ (xs : List Edge). Redues u v file es xs) (sym is) (record {
        others = one_file_others u v peer file went;
        own = λ was. record {
          due = λ p k. one_file_own u v peer file went p k ∙ ap (λ b. not (peer == p) && b) (was.due p k) ∙ sym (owes-without_edge es peer p k);
          ordered = λ p. ordered-without_edge es peer p (was.ordered p);
        };
      })

  -- a key is acknowledged
  pub redues_off : (peer : ℕ) (key : Key) → Goes u v peer (due_at file key) → fs ≡ taken_off es peer key → Redues u v file es fs
  redues_off peer key went is =
      subst (λ (xs : List Edge). Redues u v file es xs) (sym is) (record {
        others = go_others u v peer file key went;
        own = λ was. record {
          due = λ p k. go_own u v peer file key went p k ∙ ap (λ b. not (peer == p && is_same_key key k) && b) (was.due p k) ∙ sym (owes-taken_off es peer p key k);
          ordered = λ p. ordered-taken_off es peer p key (was.ordered p);
        };
      })

  -- all dues of the file go, and its edges have no key
  pub redues_gone : ((p : ℕ) (d : Due) → has_due v p d ≡ (not (is_same_file file d.file) && has_due u p d)) → are_clean fs ≡ true → Redues u v file es fs
  redues_gone went clean = record {
    others = file_others u v file went;
    own = λ was. record {
      due = λ p k. file_own u v file went p k ∙ sym (owes-clean fs p k clean);
      ordered = λ p. ordered-clean fs p clean;
    };
  }

-- one change behind another
pub redues_on : {u v w : UnackedValue} (file : FileId) {es fs gs : List Edge} → Redues u v file es fs → Redues v w file fs gs → Redues u w file es gs
redues_on file first then = record { others = λ p d other. then.others p d other ∙ first.others p d other; own = λ was. then.own (first.own was) }

-- and then all is let go
pub redues_lost : {u v w : UnackedValue} (file : FileId) {es fs gs : List Edge} → Redues u v file es fs → OthersStay v w file → AreDueOf w file gs → Redues u w file es gs
redues_lost file first then is = record { others = λ p d other. then p d other ∙ first.others p d other; own = λ was. is }
