-- What is looked up in a map in memory, and what a new entry does to its files.
use Rattle.std.proofs.Common.{◌≡◌, ℕ, List, [], ◌∷◌, Bool, true, false, cond, Some, refl, sym, ap, ◌∙◌, Vec, String, string_bytes}
use Rattle.std.specs.Prelude.{Option, option_map, string_cmp}
use Rattle.std.specs.Str.{bytes_eq}
use Rattle.std.specs.Ordering.{nat_cmp, is_eq, eq_by_cmp}
use Rattle.std.specs.Cmp.{eq_by_cmp_equiv}
use Rattle.std.specs.Cmp.Lexicographic.{slice_cmp, nat_list_cmp_total}
use Rattle.std.specs.Map.{lookup}
use Rattle.std.specs.BTreeMap.{BTreeMap, is_at, get_by_text, UpdatesBy}
use Rattle.std.specs.FinMap as fin
use Rattle.std.proofs.lemmas.Map.Text.{btree_map_updates_text, is_eq-slice_cmp}
use Rattle.bvd_host.specs.Files.{file_at, with_file}
use Rattle.bvd_host.specs.Listed.{listed, named_bytes}

after_cond : {Z : Type 0} (b : Bool) (v : Vec ℕ Z) (o : Option (Vec ℕ Z)) → option_map (λ v. v.items) (cond b (Some v) o) ≡ cond b (Some v.items) (option_map (λ v. v.items) o)
after_cond true v o = refl
after_cond false v o = refl

module _ {Y Z : Type 0} where
  lookup_named : (q : List ℕ) (es : List (String Y × Vec ℕ Z)) → fin.find (slice_cmp nat_cmp) q (named_bytes es)
      ≡ option_map (λ v. v.items) (lookup (is_at (λ k. slice_cmp nat_cmp q (string_bytes k))) es)
  lookup_named q [] = refl
  lookup_named q (e ∷ es) =
      elim (is_eq (slice_cmp nat_cmp q (string_bytes e.0))) as (λ b. cond b (Some e.1.items) (fin.find (slice_cmp nat_cmp) q (named_bytes es))
      ≡ option_map (λ v. v.items) (cond b (Some e.1) (lookup (is_at (λ k. slice_cmp nat_cmp q (string_bytes k))) es))) [ true ↦ refl | false ↦ lookup_named q es ]

  -- the file under a name is what the map has at that text
  pub file_at-listed : (m : BTreeMap (String Y) (Vec ℕ Z)) (q : List ℕ) → file_at (listed m) q ≡ option_map (λ v. v.items) (get_by_text m q)
  file_at-listed m q = fin.get-from_entries nat_list_cmp_total (named_bytes m.entries) q ∙ lookup_named q m.entries

  -- after an insertion the files have the new bytes
  pub listed-updates : (m n : BTreeMap (String Y) (Vec ℕ Z)) (k : List ℕ) (v : Vec ℕ Z)
      → UpdatesBy string_cmp (λ x. slice_cmp nat_cmp k (string_bytes x)) m n (Some v) → listed n ≡ with_file (listed m) k v.items
  listed-updates m n k v updates =
      fin.same_map nat_list_cmp_total (fin.slice_cmp-IsAntisymmetric fin.nat_cmp-IsAntisymmetric) (listed n) (with_file (listed m) k v.items) (λ q.
      let found = btree_map_updates_text k m n (Some v) updates q in
      let same : bytes_eq k q ≡ eq_by_cmp (slice_cmp nat_cmp) q k = sym (is_eq-slice_cmp k q) ∙ (eq_by_cmp_equiv nat_list_cmp_total).symm k q in
      file_at-listed n q ∙ ap (option_map (λ v. v.items)) found ∙ after_cond (bytes_eq k q) v (get_by_text m q)
      ∙ ap (λ b. cond b (Some v.items) (option_map (λ v. v.items) (get_by_text m q))) same
      ∙ ap (λ o. cond (eq_by_cmp (slice_cmp nat_cmp) q k) (Some v.items) o) (sym (file_at-listed m q))
      ∙ sym (fin.get-insert nat_list_cmp_total (listed m) k v.items q))

  -- to put the same bytes back changes nothing
  pub listed-unchanged : (m n : BTreeMap (String Y) (Vec ℕ Z)) → n.entries ≡ m.entries → listed n ≡ listed m
  listed-unchanged m n e = ap (λ es. fin.from_entries (named_bytes es)) e
