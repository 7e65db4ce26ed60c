-- docs/RULES.md's table, numbers 7 and 8: each is given exactly when its line says so.
-- Assumes nothing.
use Prim.Native.Nat.{ℕ, ◌+◌, ◌<◌, ◌≤◌}
use mathlib.Core.Path.{◌≡◌, refl, sym, ◌∙◌}
use mathlib.Core.Bool.{Bool, true, false}
use mathlib.Core.Logic.{◌↔◌, inl, inr, ⊎_elim}
use mathlib.Core.List.{List}
use native.Mathlib.Omega.{arith}
use lib.Dec.{eqb, ltb, leb}
use lib.ListN.{length}
use borrow.Author.Tests.{eqb-true, eqb-false, ltb-true, ltb-false, leb-true, leb-false}
use Rattle.ivf_file.specs.declared.IvfHeader.{IvfHeader}
use Rattle.ivf_file.specs.declared.NotIvf.{NotIvf}
use Rattle.std.specs.Prelude.{None, Some, Result, Ok, Err}
use Rattle.ivf_file.specs.File.{dkif, vp90, stands_at, header_size, file_header_of, file_of, file_number}
use Rattle.ivf_file.specs.Record.{RecordRead, data_end, record_of, record_number}
use Rattle.ivf_file.specs.Table.{Lacks, BadFile, FileWhen, CutShort, RecordWhen}
use Rattle.ivf_file.proofs.Stands.{stands_part, part_stands}
use Rattle.ivf_file.proofs.Cases.{too_short, no_dkif, other_size, no_vp90, is_header, at_end, cut, whole}

differ : {A : Type 0} → true ≡ false → A
differ e = let z : ◌≡◌ {A = ℕ} 0 1 = cc in absurd (omega arith)

module _ (f : List ℕ) where
  pub lacks : (at : ℕ) (bs : List ℕ) → at + length bs ≤ length f → stands_at f at bs ≡ false → Lacks f at bs
  lacks at bs h e p = differ (sym (part_stands f at bs h p) ∙ e)

  -- by what the code compares
  file_answered : FileWhen (file_of f) f
  file_answered = go (leb 32 (length f)) refl (stands_at f 0 dkif) refl (eqb (header_size f) 32) refl (stands_at f 8 vp90) refl
    where
      go : (a : Bool) → leb 32 (length f) ≡ a → (b : Bool) → stands_at f 0 dkif ≡ b → (c : Bool) → eqb (header_size f) 32 ≡ c → (d : Bool) → stands_at f 8 vp90 ≡ d → FileWhen (file_of f) f
      go false h b e c k d v = let l = leb-false 32 (length f) h in rw (← too_short f l) (inl l)
      go true h false e c k d v =
          let l = leb-true 32 (length f) h in
          rw (← no_dkif f l _ (sym e) refl) (inr (inl (lacks 0 dkif (omega arith) e)))
      go true h true e false k d v =
          let l = leb-true 32 (length f) h in
          let n = eqb-false (header_size f) 32 k in
          rw (← other_size f l _ (sym e) refl _ refl n) (inr (inr (inl n)))
      go true h true e true k false v =
          let l = leb-true 32 (length f) h in
          rw (← no_vp90 f l _ (sym e) refl _ refl (eqb-true _ _ k) _ (sym v) refl) (inr (inr (inr (lacks 8 vp90 (omega arith) v))))
      go true h true e true k true v =
          let l = leb-true 32 (length f) h in
          rw (← is_header f l _ (sym e) refl _ refl (eqb-true _ _ k) _ (sym v) refl _ refl)
          (⊎_elim (λ s. omega (arith, s)) (⊎_elim (λ n. n (stands_part f 0 dkif (omega arith) e)) (⊎_elim (λ n. n (eqb-true _ _ k)) (λ n. n (stands_part f 8 vp90 (omega arith) v)))), refl)

  -- an answer is given exactly when the table says so
  pub file_exactly : (a : Result IvfHeader NotIvf) → (file_of f ≡ a) ↔ FileWhen a f
  file_exactly a = (λ e. rw e at file_answered, λ w. agree (file_of f) a file_answered w)
    where
      agree : (a b : Result IvfHeader NotIvf) → FileWhen a f → FileWhen b f → a ≡ b
      agree (Err _) (Err _) h k = refl
      agree (Err _) (Ok y) h k = absurd (k.0 h)
      agree (Ok x) (Err _) h k = absurd (h.0 k)
      agree (Ok x) (Ok y) h k = rw (h.1, k.1)

  pub number_7 : (file_number (file_of f) ≡ 7) ↔ BadFile f
  number_7 = (says (file_of f) file_answered, λ h. rw ((file_exactly (Err (record {}))).1 h))
    where
      says : (a : Result IvfHeader NotIvf) → FileWhen a f → file_number a ≡ 7 → BadFile f
      says (Err _) h e = h
      says (Ok x) h e = absurd (omega arith)

  pub file_number_0 : (file_number (file_of f) ≡ 0) ↔ (BadFile f → ⊥)
  file_number_0 = (says (file_of f) file_answered, λ h. rw ((file_exactly (Ok (file_header_of f))).1 (h, refl)))
    where
      says : (a : Result IvfHeader NotIvf) → FileWhen a f → file_number a ≡ 0 → BadFile f → ⊥
      says (Err _) h e = absurd (omega arith)
      says (Ok x) h e = h.0

module _ (f : List ℕ) (p : ℕ) where
  record_answered : RecordWhen (record_of f p) f p
  record_answered = go (eqb p (length f)) refl (ltb (length f) (data_end f p)) refl
    where
      go : (a : Bool) → eqb p (length f) ≡ a → (b : Bool) → ltb (length f) (data_end f p) ≡ b → RecordWhen (record_of f p) f p
      go true e b h = let n = eqb-true p (length f) e in rw (← at_end f p n) n
      go false e true h = let n = eqb-false p (length f) e in let l = ltb-true (length f) (data_end f p) h in rw (← cut f p n l) (n, inr l)
      go false e false h =
          let n = eqb-false p (length f) e in
          let l = ltb-false (length f) (data_end f p) h in
          rw (← whole f p n l) (⊎_elim (λ k. omega arith) (λ k. omega arith), refl)

  pub record_exactly : (a : RecordRead) → (record_of f p ≡ a) ↔ RecordWhen a f p
  record_exactly a = (λ e. rw e at record_answered, λ w. agree (record_of f p) a record_answered w)
    where
      -- a record that isn't cut short has a first byte
      none : {A : Type 0} → p ≡ length f → (CutShort f p → ⊥) → A
      none e h = absurd (h (inl (omega arith)))

      agree : (a b : RecordRead) → RecordWhen a f p → RecordWhen b f p → a ≡ b
      agree (Ok None) (Ok None) h k = refl
      agree (Ok None) (Err _) h k = absurd (k.0 h)
      agree (Ok None) (Ok (Some y)) h k = none h k.0
      agree (Err _) (Ok None) h k = absurd (h.0 k)
      agree (Err _) (Err _) h k = refl
      agree (Err _) (Ok (Some y)) h k = absurd (k.0 h.1)
      agree (Ok (Some x)) (Ok None) h k = none k h.0
      agree (Ok (Some x)) (Err _) h k = absurd (h.0 k.1)
      agree (Ok (Some x)) (Ok (Some y)) h k = rw (h.1, k.1)

  pub number_8 : (record_number (record_of f p) ≡ 8) ↔ ((p ≡ length f → ⊥) × CutShort f p)
  number_8 = (says (record_of f p) record_answered, λ h. rw ((record_exactly (Err (record {}))).1 h))
    where
      says : (a : RecordRead) → RecordWhen a f p → record_number a ≡ 8 → (p ≡ length f → ⊥) × CutShort f p
      says (Ok None) h e = absurd (omega arith)
      says (Err _) h e = h
      says (Ok (Some x)) h e = absurd (omega arith)

  pub record_number_0 : (record_number (record_of f p) ≡ 0) ↔ (RecordWhen (Err (record {})) f p → ⊥)
  record_number_0 = (says (record_of f p) record_answered, back (record_of f p) record_answered)
    where
      says : (a : RecordRead) → RecordWhen a f p → record_number a ≡ 0 → RecordWhen (Err (record {})) f p → ⊥
      says (Ok None) h e k = k.0 h
      says (Err _) h e k = absurd (omega arith)
      says (Ok (Some x)) h e k = h.0 k.1

      back : (a : RecordRead) → RecordWhen a f p → (RecordWhen (Err (record {})) f p → ⊥) → record_number a ≡ 0
      back (Ok None) h k = refl
      back (Err _) h k = absurd (k h)
      back (Ok (Some x)) h k = refl

  -- a place past the file's end gives 8
  pub past_the_end : length f < p → record_of f p ≡ Err (record {})
  past_the_end h = (record_exactly (Err (record {}))).1 (λ e. omega arith, inl (omega arith))

  -- the file's end is no refusal
  pub ends : p ≡ length f → record_of f p ≡ Ok None
  ends = (record_exactly (Ok None)).1
