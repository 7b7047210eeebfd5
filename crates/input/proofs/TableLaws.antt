-- A line's entries as they are read, one by one.
use Prim.Native.Nat.{ℕ, suc, ◌+◌, ◌-◌, ◌*◌, ◌≤◌, ◌<◌}
use native.Mathlib.Numerals.{add-one}
use native.Mathlib.Omega.{arith}
use mathlib.Core.Bool.{Bool, true, false}
use mathlib.Core.List.{List, [], ◌∷◌, ◌++◌, append-nil, append_assoc}
use mathlib.Core.Path.{◌≡◌, refl, sym, ◌∙◌, ap, ap₂, subst}
use lib.Dec.{ltb}
use lib.ListN.{length, take, drop, set, length-append, length-take}
use lib.Seq.{paste, append_snoc, take-paste, take-suc-set, take_all}
use borrow.Author.Tests.{ltb-true, ltb-false}
use Rattle.packet.proofs.Tests.{clash, and_true}
use Rattle.input.specs.Input.{split_by, is_entry, entry_name, entry_size, entries_of, all_entries, is_table, cell_of, cells_of, sizes_of, table_of}
use Rattle.input.specs.Inner.{part, PartFrom, EntryStored, read_as, TableRead}
use Rattle.std.specs.Prelude.{Some, None}
use Rattle.input.proofs.LineLaws.{and_false}
use Rattle.input.proofs.CellLaws.{cell_length}
use Rattle.input.proofs.EntryLaws.{entry_long}

-- ---- one entry more

all_refused : (es ws : List (List ℕ)) (e : List ℕ) → is_entry e ≡ false → all_entries (es ++ e ∷ ws) ≡ false
unfolding all_entries
all_refused [] ws e h = rw h
all_refused (a ∷ es) ws e h = rw (all_refused es ws e h) (and_false (is_entry a))

all_more : (es : List (List ℕ)) (e : List ℕ) → all_entries es ≡ true → is_entry e ≡ true → all_entries (es ++ (e ∷ [])) ≡ true
unfolding all_entries
all_more [] e h k = rw k
all_more (a ∷ es) e h k = let b = and_true (is_entry a) (all_entries es) h in rw (b.0, all_more es e b.1 k)

cells_more : (es : List (List ℕ)) (e : List ℕ) → cells_of (es ++ (e ∷ [])) ≡ cells_of es ++ cell_of (entry_name e)
unfolding cells_of
cells_more [] e = append-nil (cell_of (entry_name e))
cells_more (a ∷ es) e = ap (λ (l : List ℕ). cell_of (entry_name a) ++ l) (cells_more es e) ∙ sym (append_assoc (cell_of (entry_name a)) (cells_of es) (cell_of (entry_name e)))

sizes_more : (es : List (List ℕ)) (e : List ℕ) → sizes_of (es ++ (e ∷ [])) ≡ sizes_of es ++ (entry_size e ∷ [])
unfolding sizes_of
sizes_more [] e = refl
sizes_more (a ∷ es) e = ap (λ (l : List ℕ). entry_size a ∷ l) (sizes_more es e)

-- entries, and the table of them at the front of two lists
pub record Stored (es : List (List ℕ)) (count : ℕ) (cells sizes : List ℕ) : Type 0 where
  pub all : all_entries es ≡ true
  pub many : length es ≡ count
  pub names : take (count * 16) cells ≡ cells_of es
  pub values : take count sizes ≡ sizes_of es

stored_more : {es : List (List ℕ)} {count : ℕ} {cells sizes : List ℕ} → Stored es count cells sizes → (e : List ℕ) → is_entry e ≡ true → count * 16 + 16 ≤ length cells → count < length sizes
    → Stored (es ++ (e ∷ [])) (count + 1) (paste cells (count * 16) (cell_of (entry_name e)) 16) (set sizes count (entry_size e))
stored_more {es} {count} {cells} {sizes} s e h room space =
    let n : length (cell_of (entry_name e)) ≡ 16 = cell_length (entry_name e) in
    let k : (count + 1) * 16 ≡ count * 16 + 16 = omega arith in
    record {
      all = all_more es e s.all h;
      many = omega (arith, length-append es (e ∷ []), s.many);
      names =
          ap (λ (i : ℕ). take i (paste cells (count * 16) (cell_of (entry_name e)) 16)) k
          ∙ take-paste cells (count * 16) (cell_of (entry_name e)) 16 (omega arith) (omega arith)
          ∙ ap₂ (λ (a b : List ℕ). a ++ b) s.names (take_all 16 (cell_of (entry_name e)) (omega arith))
          ∙ sym (cells_more es e);
      values =
          ap (λ (i : ℕ). take i (set sizes count (entry_size e))) (add-one count)
          ∙ take-suc-set sizes count (entry_size e) space
          ∙ ap (λ (l : List ℕ). l ++ (entry_size e ∷ [])) s.values
          ∙ sym (sizes_more es e);
    }

-- ---- the whole line

-- the entries before a byte have been read
pub record SoFar (line cells sizes : List ℕ) (count at : ℕ) : Type 0 where
  pub within : at ≤ length line
  pub few : count * 3 ≤ at
  pub before : List (List ℕ)
  pub entries : entries_of line ≡ before ++ split_by 44 (drop at line)
  pub stored : Stored before count cells sizes

pub none_read : (line cells sizes : List ℕ) → (length line ≡ 0 → ⊥) → SoFar line cells sizes 0 0
unfolding entries_of all_entries cells_of sizes_of
none_read line cells sizes h =
    record {
      within = omega arith;
      few = omega arith;
      before = [];
      entries = split line h;
      stored = record { all = refl; many = refl; names = refl; values = refl };
    }
  where
    split : (l : List ℕ) → (length l ≡ 0 → ⊥) → entries_of l ≡ split_by 44 l
    split [] k = absurd (k refl)
    split (b ∷ bs) k = refl

-- an empty line
pub no_entries : (line cells sizes : List ℕ) → length line ≡ 0 → TableRead line (Some 0) cells sizes
unfolding read_as is_table entries_of all_entries table_of cells_of sizes_of
no_entries [] cells sizes h = record { answer = refl; few = λ _. omega arith; names = λ _. refl; values = λ _. refl }
no_entries (b ∷ bs) cells sizes h = absurd (omega arith)

module _ {line cells sizes : List ℕ} {count at : ℕ} (s : SoFar line cells sizes count at) (short : length line ≤ 32768) where
  pub has_room : count < 10923
  has_room = omega (arith, s.few, s.within)

  module _ {end : ℕ} (p : PartFrom 44 line at end) {ok : Bool} {cells' sizes' : List ℕ} (r : EntryStored (part line at end) count ok cells sizes cells' sizes') where
    -- the part that starts here is no entry
    pub not_entry : ok ≡ false → TableRead line None cells' sizes'
    unfolding read_as is_table
    not_entry h = go (ltb end (length line)) refl
      where
        bad : (ws : List (List ℕ)) → split_by 44 (drop at line) ≡ part line at end ∷ ws → all_entries (entries_of line) ≡ false
        bad ws e = ap all_entries (s.entries ∙ ap (λ (l : List (List ℕ)). s.before ++ l) e) ∙ all_refused s.before ws (part line at end) (sym r.answer ∙ h)

        made : all_entries (entries_of line) ≡ false → TableRead line None cells' sizes'
        made e = record { answer = rw e; few = λ x. clash x e; names = λ x. clash x e; values = λ x. clash x e }

        go : (b : Bool) → ltb end (length line) ≡ b → TableRead line None cells' sizes'
        go true q = made (bad _ (p.more (ltb-true end (length line) q)))
        go false q = made (bad _ (p.last (ltb-false end (length line) q)))

    module _ (h : ok ≡ true) where
      -- an entry has two bytes
      pub onward : at + 2 ≤ end
      onward = omega (arith, entry_long (part line at end) (sym r.answer ∙ h), length-take (end - at) (drop at line))

      module _ (room : 174768 ≤ length cells) (space : 10923 ≤ length sizes) where
        one_more : Stored (s.before ++ (part line at end ∷ [])) (count + 1) cells' sizes'
        one_more =
            subst (λ (l : List ℕ). Stored (s.before ++ (part line at end ∷ [])) (count + 1) l sizes') (sym (r.cell h))
            (subst (Stored (s.before ++ (part line at end ∷ [])) (count + 1) (paste cells (count * 16) (cell_of (entry_name (part line at end))) 16)) (sym (r.size h))
            (stored_more s.stored (part line at end) (sym r.answer ∙ h) (omega (arith, has_room)) (omega (arith, has_room))))

        -- a comma follows it
        pub read_on : end < length line → SoFar line cells' sizes' (count + 1) (end + 1)
        read_on l =
            record {
              within = omega arith;
              few = omega (arith, s.few, onward);
              before = s.before ++ (part line at end ∷ []);
              entries =
                  s.entries
                  ∙ ap (λ (x : List (List ℕ)). s.before ++ x) (p.more l)
                  ∙ sym (append_snoc s.before (part line at end) (split_by 44 (drop (suc end) line)))
                  ∙ ap (λ (k : ℕ). s.before ++ (part line at end ∷ []) ++ split_by 44 (drop k line)) (sym (add-one end));
              stored = one_more;
            }

        -- the line ends after it
        pub read_last : end ≡ length line → TableRead line (Some (count + 1)) cells' sizes'
        unfolding read_as is_table table_of
        read_last l =
            let es : entries_of line ≡ s.before ++ (part line at end ∷ []) = s.entries ∙ ap (λ (x : List (List ℕ)). s.before ++ x) (p.last (omega arith)) in
            let n : length (entries_of line) ≡ count + 1 = ap length es ∙ one_more.many in
            record {
              answer = rw (ap all_entries es ∙ one_more.all, n);
              few = λ _. omega (arith, n, has_room);
              names = λ _. ap (λ (k : ℕ). take (k * 16) cells') n ∙ one_more.names ∙ ap cells_of (sym es);
              values = λ _. ap (λ (k : ℕ). take k sizes') n ∙ one_more.values ∙ ap sizes_of (sym es);
            }
