-- What is put into a set is in it, and what is taken out leaves the others.
use Rattle.std.proofs.Common.{◌≡◌, ◌≢◌, true, false, not, cond, List, [], ◌∷◌, refl, sym, ◌∙◌, inl, inr}
use Rattle.sat_form.specs.Literals.{Literal, member, same_literal, stands_before, put, without}
use Rattle.sat_form.proofs.Sets as sets

pub put-here : (s : List Literal) (l : Literal) → member (put s l) l ≡ true
put-here [] l = sets.either_left (same_literal l l) false (sets.same_itself l)
put-here (k ∷ s) l = elim (stands_before l k) as (λ b. member (cond b (l ∷ k ∷ s) (cond (same_literal l k) (k ∷ s) (k ∷ put s l))) l ≡ true) [
  | true ↦ sets.either_left (same_literal l l) (member (k ∷ s) l) (sets.same_itself l)
  | false ↦ elim (same_literal l k) as (λ b. same_literal l k ≡ b → member (cond b (k ∷ s) (k ∷ put s l)) l ≡ true) [
    | true ↦ λ e. sets.either_left (same_literal l k) (member s l) e
    | false ↦ λ _. sets.either_right (same_literal l k) (member (put s l) l) (put-here s l)
  ] refl
]

pub put-keeps : (s : List Literal) (l k : Literal) → member s k ≡ true → member (put s l) k ≡ true
put-keeps [] l k h = absurd (cc)
put-keeps (j ∷ s) l k h = elim (stands_before l j) as (λ b. member (cond b (l ∷ j ∷ s) (cond (same_literal l j) (j ∷ s) (j ∷ put s l))) k ≡ true) [
  | true ↦ sets.either_right (same_literal k l) (member (j ∷ s) k) h
  | false ↦ elim (same_literal l j) as (λ b. member (cond b (j ∷ s) (j ∷ put s l)) k ≡ true) [
    | true ↦ h
    | false ↦ elim (sets.one_of (same_literal k j) (member s k) h) as (λ _. member (j ∷ put s l) k ≡ true) [
      | inl here ↦ sets.either_left (same_literal k j) (member (put s l) k) here
      | inr later ↦ sets.either_right (same_literal k j) (member (put s l) k) (put-keeps s l k later)
    ]
  ]
]

pub without-keeps : (s : List Literal) (l k : Literal) → k ≢ l → member s k ≡ true → member (without s l) k ≡ true
without-keeps [] l k d h = absurd (cc)
without-keeps (j ∷ s) l k d h = elim (same_literal l j) as (λ b. same_literal l j ≡ b → member (cond (not b) (j ∷ without s l) (without s l)) k ≡ true) [
  | true ↦ λ e. elim (sets.one_of (same_literal k j) (member s k) h) as (λ _. member (without s l) k ≡ true) [
    | inl here ↦ absurd (d (sets.same_is k j here ∙ sym (sets.same_is l j e)))
    | inr later ↦ without-keeps s l k d later
  ]
  | false ↦ λ _. elim (sets.one_of (same_literal k j) (member s k) h) as (λ _. member (j ∷ without s l) k ≡ true) [
    | inl here ↦ sets.either_left (same_literal k j) (member (without s l) k) here
    | inr later ↦ sets.either_right (same_literal k j) (member (without s l) k) (without-keeps s l k d later)
  ]
] refl
