-- Operations and their cycles match one to one.
use Rattle.std.proofs.Common.{◌≡◌, ℕ, suc, ◌+◌, ◌*◌, ◌/◌, ◌%◌, ◌^◌, ◌<◌, ◌≤◌, eqb, leb, Bool, true, false, cond, Option, Some, None, Result, Ok, List, [], ◌∷◌, ◌++◌, map, length, take, refl, sym, ◌∙◌, ap, subst, inl, inr, arith}
use Rattle.std.proofs.lemmas.Bool.{le-leb, leb-true, eqb-true, cond-true, cond-false}
use Rattle.std.proofs.lemmas.Bool.Decides.{eqb_tells}
use Rattle.onfi_cmd.specs.declared.cycle.Cycle.{Cycle}
use Rattle.onfi_cmd.specs.declared.cycle.Cycle.TheVariants.{Command, Address, Byte}
use Rattle.onfi_cmd.specs.declared.op.Op.{Op}
use Rattle.onfi_cmd.specs.declared.op.Op.TheVariants.{Read, Program, Erase, Status, Reset, SetFeatures, GetFeatures}
use Rattle.onfi_cmd.specs.declared.cycle_fault.CycleFault.{CycleFault}
use Rattle.onfi_cmd.specs.declared.reading.Expected.{Expected}
use Rattle.onfi_cmd.specs.declared.reading.Expected.TheVariants.{AnyAddress, Feature, AnyByte, Closing}
use Rattle.onfi_cmd.specs.Cycles.{cycles_of, HasItsFeature, HasItsBytes, Spells, value_of, value_at, bytes_of_op, IsOfBytes, column_cycles, row_cycles}
use Rattle.onfi_cmd.specs.Reading.{operation_of, data_fault, end_fault, first_fault, unless_fault, after_read, after_program, after_erase, after_set_features, after_get_features, column_at, row_at, params_at}

-- a row is put together again from its bytes, and a column too
row_again : (row : ℕ) → row % 256 + 256 * (row / 256 % 256) + 65536 * (row / 65536) ≡ row
row_again row = omega arith

column_again : (column : ℕ) → column % 256 + 256 * (column / 256) ≡ column
column_again column = omega arith

-- data bytes and the last command have no fault
data_fault-none : (place : ℕ) (bytes : List ℕ) → data_fault place (map Byte bytes ++ Command 0x10 ∷ []) ≡ None
data_fault-none place [] = refl
data_fault-none place (byte ∷ bytes) = data_fault-none (place + 1) bytes

-- the cycles of an operation say that operation
pub said : (op : Op) (bytes : List ℕ) → HasItsFeature op → HasItsBytes op bytes → operation_of (cycles_of op bytes) ≡ Ok op
said (Read column row) bytes f h = rw (column_again column, row_again row)
said (Program column row) [] f h = absurd (omega arith)
said (Program column row) (byte ∷ bytes) f h = rw (data_fault-none 7 bytes, column_again column, row_again row)
said (Erase row) bytes f h = rw (row_again row)
said Status bytes f h = refl
said Reset bytes f h = refl
said (SetFeatures address (p ∷ q ∷ r ∷ s ∷ [])) bytes f h = rw (le-leb 0x80 address f.0)
said (SetFeatures address params) bytes f h = absurd (omega (arith, f.1))
said (GetFeatures address) bytes f h = rw (le-leb 0x80 address f)

-- What was passed: where no fault comes, the next cycle is of the expected kind, and none comes after it.
taken_address : (rest : ℕ → List Cycle → Option CycleFault) (kinds : List Expected) (place : ℕ) (cycles : List Cycle) →
    first_fault rest (AnyAddress ∷ kinds) place cycles ≡ None →
    (byte : ℕ) × (others : List Cycle) × (cycles ≡ Address byte ∷ others) × (first_fault rest kinds (place + 1) others ≡ None)
taken_address rest kinds place [] h = absurd (cc)
taken_address rest kinds place (Address byte ∷ others) h = (byte, others, refl, h)
taken_address rest kinds place (Command byte ∷ others) h = absurd (cc)
taken_address rest kinds place (Byte byte ∷ others) h = absurd (cc)

taken_byte : (rest : ℕ → List Cycle → Option CycleFault) (kinds : List Expected) (place : ℕ) (cycles : List Cycle) →
    first_fault rest (AnyByte ∷ kinds) place cycles ≡ None →
    (byte : ℕ) × (others : List Cycle) × (cycles ≡ Byte byte ∷ others) × (first_fault rest kinds (place + 1) others ≡ None)
taken_byte rest kinds place [] h = absurd (cc)
taken_byte rest kinds place (Address byte ∷ others) h = absurd (cc)
taken_byte rest kinds place (Command byte ∷ others) h = absurd (cc)
taken_byte rest kinds place (Byte byte ∷ others) h = (byte, others, refl, h)

-- a test that had to hold
had_to_hold : (b : Bool) (x : Option CycleFault) (fault : CycleFault) → cond b x (Some fault) ≡ None → (b ≡ true) × (x ≡ None)
had_to_hold true x fault h = (refl, h)
had_to_hold false x fault h = absurd (cc)

taken_feature : (rest : ℕ → List Cycle → Option CycleFault) (kinds : List Expected) (place : ℕ) (cycles : List Cycle) →
    first_fault rest (Feature ∷ kinds) place cycles ≡ None →
    (byte : ℕ) × (others : List Cycle) × (cycles ≡ Address byte ∷ others) × (first_fault rest kinds (place + 1) others ≡ None) × (0x80 ≤ byte)
taken_feature rest kinds place [] h = absurd (cc)
taken_feature rest kinds place (Address byte ∷ others) h =
    let held = had_to_hold (leb 0x80 byte) _ _ h in (byte, others, refl, held.1, leb-true 0x80 byte held.0)
taken_feature rest kinds place (Command byte ∷ others) h = absurd (cc)
taken_feature rest kinds place (Byte byte ∷ others) h = absurd (cc)

taken_closing : (rest : ℕ → List Cycle → Option CycleFault) (kinds : List Expected) (command place : ℕ) (cycles : List Cycle) →
    first_fault rest (Closing command ∷ kinds) place cycles ≡ None →
    (others : List Cycle) × (cycles ≡ Command command ∷ others) × (first_fault rest kinds (place + 1) others ≡ None)
taken_closing rest kinds command place [] h = absurd (cc)
taken_closing rest kinds command place (Address byte ∷ others) h = absurd (cc)
taken_closing rest kinds command place (Command byte ∷ others) h =
    let held = had_to_hold (eqb byte command) _ _ h in
    (others, ap (λ (n : ℕ). Command n ∷ others) (eqb-true byte command held.0), held.1)
taken_closing rest kinds command place (Byte byte ∷ others) h = absurd (cc)

taken_end : (place : ℕ) (cycles : List Cycle) → end_fault place cycles ≡ None → cycles ≡ []
taken_end place [] h = refl
taken_end place (cycle ∷ cycles) h = absurd (cc)

taken_data : (place : ℕ) (cycles : List Cycle) → data_fault place cycles ≡ None →
    (bytes : List ℕ) × (cycles ≡ map Byte bytes ++ Command 0x10 ∷ [])
taken_data place [] h = absurd (cc)
taken_data place (Byte byte ∷ cycles) h =
    let more = taken_data (place + 1) cycles h in (byte ∷ more.0, ap (λ (cs : List Cycle). Byte byte ∷ cs) more.1)
taken_data place (Command byte ∷ cycles) h =
    let held = had_to_hold (eqb byte 0x10) _ _ h in
    ([], ap (λ (cs : List Cycle). Command byte ∷ cs) (taken_end (place + 1) cycles held.1) ∙ ap (λ (n : ℕ). Command n ∷ []) (eqb-true byte 0x10 held.0))
taken_data place (Address byte ∷ cycles) h = absurd (cc)

-- what an operation without a fault is
only_without_fault : (fault : Option CycleFault) (op said : Op) → unless_fault fault op ≡ Ok said → (fault ≡ None) × (said ≡ op)
only_without_fault None op said h = (refl, cc)
only_without_fault (Some fault) op said h = absurd (cc)

-- bytes are put together and taken apart again
low_again : (a b : ℕ) → a < 256 → (a + 256 * b) % 256 ≡ a
low_again a b h = omega arith

high_again : (a b : ℕ) → a < 256 → (a + 256 * b) / 256 ≡ b
high_again a b h = omega arith

row_low : (a b c : ℕ) → a < 256 → b < 256 → (a + 256 * b + 65536 * c) % 256 ≡ a
row_low a b c ha hb = omega arith

row_middle : (a b c : ℕ) → a < 256 → b < 256 → (a + 256 * b + 65536 * c) / 256 % 256 ≡ b
row_middle a b c ha hb = omega arith

row_high : (a b c : ℕ) → a < 256 → b < 256 → (a + 256 * b + 65536 * c) / 65536 ≡ c
row_high a b c ha hb = omega arith

row_in_range : (a b c : ℕ) → a < 256 → b < 256 → c < 256 → a + 256 * b + 65536 * c < 2 ^ 24
row_in_range a b c ha hb hc = omega arith

-- the address cycles of what they say
column_back : (a b : ℕ) → a < 256 → column_cycles (a + 256 * b) ≡ Address a ∷ Address b ∷ []
column_back a b h = rw (low_again a b h, high_again a b h)

row_back : (a b c : ℕ) → a < 256 → b < 256 → row_cycles (a + 256 * b + 65536 * c) ≡ Address a ∷ Address b ∷ Address c ∷ []
row_back a b c ha hb = rw (row_low a b c ha hb, row_middle a b c ha hb, row_high a b c ha hb)

-- the data bytes of a program's cycles
bytes_back : (bytes : List ℕ) (n : ℕ) → n ≡ length bytes → map value_of (take n (map Byte bytes ++ Command 0x10 ∷ [])) ≡ bytes
bytes_back [] n h = rw h
bytes_back (byte ∷ bytes) n h = rw h (ap (λ (bs : List ℕ). byte ∷ bs) (bytes_back bytes (length bytes) refl))

-- each operation from its cycles, written out
written_read : (a b c d e : ℕ) → IsOfBytes (Command 0x00 ∷ Address a ∷ Address b ∷ Address c ∷ Address d ∷ Address e ∷ Command 0x30 ∷ []) →
    Spells (Command 0x00 ∷ Address a ∷ Address b ∷ Address c ∷ Address d ∷ Address e ∷ Command 0x30 ∷ [])
    (Read (a + 256 * b) (c + 256 * d + 65536 * e)) []
written_read a b c d e h =
    let column = column_back a b h.1.0 in
    let row = row_back c d e h.1.1.1.0 h.1.1.1.1.0 in
    record {
      cycles_are = sym (ap (λ (cs : List Cycle). Command 0x00 ∷ cs ++ row_cycles (c + 256 * d + 65536 * e) ++ Command 0x30 ∷ []) column ∙ ap (λ (cs : List Cycle). Command 0x00 ∷ Address a ∷ Address b ∷ cs ++ Command 0x30 ∷ []) row);
      row = row_in_range c d e h.1.1.1.0 h.1.1.1.1.0 h.1.1.1.1.1.0;
      feature = tt;
      data_bytes = refl;
    }

written_program : (a b c d e first : ℕ) (others : List ℕ) →
    IsOfBytes (Command 0x80 ∷ Address a ∷ Address b ∷ Address c ∷ Address d ∷ Address e ∷ Byte first ∷ (map Byte others ++ Command 0x10 ∷ [])) →
    Spells (Command 0x80 ∷ Address a ∷ Address b ∷ Address c ∷ Address d ∷ Address e ∷ Byte first ∷ (map Byte others ++ Command 0x10 ∷ []))
    (Program (a + 256 * b) (c + 256 * d + 65536 * e)) (first ∷ others)
written_program a b c d e first others h =
    let column = column_back a b h.1.0 in
    let row = row_back c d e h.1.1.1.0 h.1.1.1.1.0 in
    record {
      cycles_are = sym (ap (λ (cs : List Cycle). Command 0x80 ∷ cs ++ row_cycles (c + 256 * d + 65536 * e) ++ map Byte (first ∷ others) ++ Command 0x10 ∷ []) column
          ∙ ap (λ (cs : List Cycle). Command 0x80 ∷ Address a ∷ Address b ∷ cs ++ map Byte (first ∷ others) ++ Command 0x10 ∷ []) row);
      row = row_in_range c d e h.1.1.1.0 h.1.1.1.1.0 h.1.1.1.1.1.0;
      feature = tt;
      data_bytes = omega arith;
    }

written_erase : (a b c : ℕ) → IsOfBytes (Command 0x60 ∷ Address a ∷ Address b ∷ Address c ∷ Command 0xD0 ∷ []) →
    Spells (Command 0x60 ∷ Address a ∷ Address b ∷ Address c ∷ Command 0xD0 ∷ []) (Erase (a + 256 * b + 65536 * c)) []
written_erase a b c h = record {
  cycles_are = sym (ap (λ (cs : List Cycle). Command 0x60 ∷ cs ++ Command 0xD0 ∷ []) (row_back a b c h.1.0 h.1.1.0));
  row = row_in_range a b c h.1.0 h.1.1.0 h.1.1.1.0;
  feature = tt;
  data_bytes = refl;
}

-- how many cycles a program's data and its last command make
length_of_data : (bytes : List ℕ) → length (map Byte bytes ++ Command 0x10 ∷ []) ≡ suc (length bytes)
length_of_data [] = refl
length_of_data (byte ∷ bytes) = ap suc (length_of_data bytes)

-- the data bytes of a program's cycles, written out
bytes_of_program : (a b c d e first : ℕ) (others : List ℕ) →
    bytes_of_op (Program (a + 256 * b) (c + 256 * d + 65536 * e))
    (Command 0x80 ∷ Address a ∷ Address b ∷ Address c ∷ Address d ∷ Address e ∷ Byte first ∷ (map Byte others ++ Command 0x10 ∷ []))
    ≡ first ∷ others
bytes_of_program a b c d e first others =
    bytes_back (first ∷ others) _ (let data_length = length_of_data others in omega arith)

-- cycles that say an operation are its own
abbrev AreItsOwn : List Cycle → Op → Type 0
AreItsOwn cycles op = IsOfBytes cycles → Spells cycles op (bytes_of_op op cycles)

own_read : (others : List Cycle) → first_fault end_fault after_read 1 others ≡ None →
    AreItsOwn (Command 0x00 ∷ others) (Read (column_at (Command 0x00 ∷ others) 1) (row_at (Command 0x00 ∷ others) 3))
own_read others h =
    let a = taken_address end_fault (AnyAddress ∷ AnyAddress ∷ AnyAddress ∷ AnyAddress ∷ Closing 0x30 ∷ []) 1 others h in
    let b = taken_address end_fault (AnyAddress ∷ AnyAddress ∷ AnyAddress ∷ Closing 0x30 ∷ []) 2 a.1 a.3 in
    let c = taken_address end_fault (AnyAddress ∷ AnyAddress ∷ Closing 0x30 ∷ []) 3 b.1 b.3 in
    let d = taken_address end_fault (AnyAddress ∷ Closing 0x30 ∷ []) 4 c.1 c.3 in
    let e = taken_address end_fault (Closing 0x30 ∷ []) 5 d.1 d.3 in
    let f = taken_closing end_fault [] 0x30 6 e.1 e.3 in
    let end = taken_end 7 f.0 f.2 in
    let from_f : e.1 ≡ Command 0x30 ∷ [] = f.1 ∙ ap (λ (cs : List Cycle). Command 0x30 ∷ cs) end in
    let from_e : d.1 ≡ Address e.0 ∷ Command 0x30 ∷ [] = e.2 ∙ ap (λ (cs : List Cycle). Address e.0 ∷ cs) from_f in
    let from_d : c.1 ≡ Address d.0 ∷ Address e.0 ∷ Command 0x30 ∷ [] = d.2 ∙ ap (λ (cs : List Cycle). Address d.0 ∷ cs) from_e in
    let from_c : b.1 ≡ Address c.0 ∷ Address d.0 ∷ Address e.0 ∷ Command 0x30 ∷ [] = c.2 ∙ ap (λ (cs : List Cycle). Address c.0 ∷ cs) from_d in
    let from_b : a.1 ≡ Address b.0 ∷ Address c.0 ∷ Address d.0 ∷ Address e.0 ∷ Command 0x30 ∷ [] = b.2 ∙ ap (λ (cs : List Cycle). Address b.0 ∷ cs) from_c in
    let whole : others ≡ Address a.0 ∷ Address b.0 ∷ Address c.0 ∷ Address d.0 ∷ Address e.0 ∷ Command 0x30 ∷ [] = a.2 ∙ ap (λ (cs : List Cycle). Address a.0 ∷ cs) from_b in
    subst (λ (cs : List Cycle). AreItsOwn (Command 0x00 ∷ cs) (Read (column_at (Command 0x00 ∷ cs) 1) (row_at (Command 0x00 ∷ cs) 3)))
    (sym whole) (written_read a.0 b.0 c.0 d.0 e.0)

own_program : (others : List Cycle) → first_fault data_fault after_program 1 others ≡ None →
    AreItsOwn (Command 0x80 ∷ others) (Program (column_at (Command 0x80 ∷ others) 1) (row_at (Command 0x80 ∷ others) 3))
own_program others h =
    let a = taken_address data_fault (AnyAddress ∷ AnyAddress ∷ AnyAddress ∷ AnyAddress ∷ AnyByte ∷ []) 1 others h in
    let b = taken_address data_fault (AnyAddress ∷ AnyAddress ∷ AnyAddress ∷ AnyByte ∷ []) 2 a.1 a.3 in
    let c = taken_address data_fault (AnyAddress ∷ AnyAddress ∷ AnyByte ∷ []) 3 b.1 b.3 in
    let d = taken_address data_fault (AnyAddress ∷ AnyByte ∷ []) 4 c.1 c.3 in
    let e = taken_address data_fault (AnyByte ∷ []) 5 d.1 d.3 in
    let f = taken_byte data_fault [] 6 e.1 e.3 in
    let g = taken_data 7 f.1 f.3 in
    let last = map Byte g.0 ++ Command 0x10 ∷ [] in
    let from_f : e.1 ≡ Byte f.0 ∷ last = f.2 ∙ ap (λ (cs : List Cycle). Byte f.0 ∷ cs) g.1 in
    let from_e : d.1 ≡ Address e.0 ∷ Byte f.0 ∷ last = e.2 ∙ ap (λ (cs : List Cycle). Address e.0 ∷ cs) from_f in
    let from_d : c.1 ≡ Address d.0 ∷ Address e.0 ∷ Byte f.0 ∷ last = d.2 ∙ ap (λ (cs : List Cycle). Address d.0 ∷ cs) from_e in
    let from_c : b.1 ≡ Address c.0 ∷ Address d.0 ∷ Address e.0 ∷ Byte f.0 ∷ last = c.2 ∙ ap (λ (cs : List Cycle). Address c.0 ∷ cs) from_d in
    let from_b : a.1 ≡ Address b.0 ∷ Address c.0 ∷ Address d.0 ∷ Address e.0 ∷ Byte f.0 ∷ last = b.2 ∙ ap (λ (cs : List Cycle). Address b.0 ∷ cs) from_c in
    let whole : others ≡ Address a.0 ∷ Address b.0 ∷ Address c.0 ∷ Address d.0 ∷ Address e.0 ∷ Byte f.0 ∷ last = a.2 ∙ ap (λ (cs : List Cycle). Address a.0 ∷ cs) from_b in
    let data_are = bytes_of_program a.0 b.0 c.0 d.0 e.0 f.0 g.0 in
    subst (λ (cs : List Cycle). AreItsOwn (Command 0x80 ∷ cs) (Program (column_at (Command 0x80 ∷ cs) 1) (row_at (Command 0x80 ∷ cs) 3)))
    (sym whole)
    (λ small. subst (λ (bytes : List ℕ). Spells (Command 0x80 ∷ Address a.0 ∷ Address b.0 ∷ Address c.0 ∷ Address d.0 ∷ Address e.0 ∷ Byte f.0 ∷ last)
    (Program (a.0 + 256 * b.0) (c.0 + 256 * d.0 + 65536 * e.0)) bytes) (sym data_are) (written_program a.0 b.0 c.0 d.0 e.0 f.0 g.0 small))

own_erase : (others : List Cycle) → first_fault end_fault after_erase 1 others ≡ None →
    AreItsOwn (Command 0x60 ∷ others) (Erase (row_at (Command 0x60 ∷ others) 1))
own_erase others h =
    let a = taken_address end_fault (AnyAddress ∷ AnyAddress ∷ Closing 0xD0 ∷ []) 1 others h in
    let b = taken_address end_fault (AnyAddress ∷ Closing 0xD0 ∷ []) 2 a.1 a.3 in
    let c = taken_address end_fault (Closing 0xD0 ∷ []) 3 b.1 b.3 in
    let f = taken_closing end_fault [] 0xD0 4 c.1 c.3 in
    let end = taken_end 5 f.0 f.2 in
    let from_f : c.1 ≡ Command 0xD0 ∷ [] = f.1 ∙ ap (λ (cs : List Cycle). Command 0xD0 ∷ cs) end in
    let from_c : b.1 ≡ Address c.0 ∷ Command 0xD0 ∷ [] = c.2 ∙ ap (λ (cs : List Cycle). Address c.0 ∷ cs) from_f in
    let from_b : a.1 ≡ Address b.0 ∷ Address c.0 ∷ Command 0xD0 ∷ [] = b.2 ∙ ap (λ (cs : List Cycle). Address b.0 ∷ cs) from_c in
    let whole : others ≡ Address a.0 ∷ Address b.0 ∷ Address c.0 ∷ Command 0xD0 ∷ [] = a.2 ∙ ap (λ (cs : List Cycle). Address a.0 ∷ cs) from_b in
    subst (λ (cs : List Cycle). AreItsOwn (Command 0x60 ∷ cs) (Erase (row_at (Command 0x60 ∷ cs) 1)))
    (sym whole) (written_erase a.0 b.0 c.0)

own_set_features : (others : List Cycle) → first_fault end_fault after_set_features 1 others ≡ None →
    AreItsOwn (Command 0xEF ∷ others) (SetFeatures (value_at (Command 0xEF ∷ others) 1) (params_at (Command 0xEF ∷ others) 2))
own_set_features others h =
    let a = taken_feature end_fault (AnyByte ∷ AnyByte ∷ AnyByte ∷ AnyByte ∷ []) 1 others h in
    let p = taken_byte end_fault (AnyByte ∷ AnyByte ∷ AnyByte ∷ []) 2 a.1 a.3 in
    let q = taken_byte end_fault (AnyByte ∷ AnyByte ∷ []) 3 p.1 p.3 in
    let r = taken_byte end_fault (AnyByte ∷ []) 4 q.1 q.3 in
    let s = taken_byte end_fault [] 5 r.1 r.3 in
    let end = taken_end 6 s.1 s.3 in
    let from_s : r.1 ≡ Byte s.0 ∷ [] = s.2 ∙ ap (λ (cs : List Cycle). Byte s.0 ∷ cs) end in
    let from_r : q.1 ≡ Byte r.0 ∷ Byte s.0 ∷ [] = r.2 ∙ ap (λ (cs : List Cycle). Byte r.0 ∷ cs) from_s in
    let from_q : p.1 ≡ Byte q.0 ∷ Byte r.0 ∷ Byte s.0 ∷ [] = q.2 ∙ ap (λ (cs : List Cycle). Byte q.0 ∷ cs) from_r in
    let from_p : a.1 ≡ Byte p.0 ∷ Byte q.0 ∷ Byte r.0 ∷ Byte s.0 ∷ [] = p.2 ∙ ap (λ (cs : List Cycle). Byte p.0 ∷ cs) from_q in
    let whole : others ≡ Address a.0 ∷ Byte p.0 ∷ Byte q.0 ∷ Byte r.0 ∷ Byte s.0 ∷ [] = a.2 ∙ ap (λ (cs : List Cycle). Address a.0 ∷ cs) from_p in
    subst (λ (cs : List Cycle). AreItsOwn (Command 0xEF ∷ cs) (SetFeatures (value_at (Command 0xEF ∷ cs) 1) (params_at (Command 0xEF ∷ cs) 2)))
    (sym whole)
    (λ small. record { cycles_are = refl; row = tt; feature = (a.4, refl); data_bytes = refl })

own_get_features : (others : List Cycle) → first_fault end_fault after_get_features 1 others ≡ None →
    AreItsOwn (Command 0xEE ∷ others) (GetFeatures (value_at (Command 0xEE ∷ others) 1))
own_get_features others h =
    let a = taken_feature end_fault [] 1 others h in
    let end = taken_end 2 a.1 a.3 in
    let whole : others ≡ Address a.0 ∷ [] = a.2 ∙ ap (λ (cs : List Cycle). Address a.0 ∷ cs) end in
    subst (λ (cs : List Cycle). AreItsOwn (Command 0xEE ∷ cs) (GetFeatures (value_at (Command 0xEE ∷ cs) 1)))
    (sym whole)
    (λ small. record { cycles_are = refl; row = tt; feature = a.4; data_bytes = refl })

own_alone : (command : ℕ) (others : List Cycle) (op : Op) → end_fault 1 others ≡ None →
    AreItsOwn (Command command ∷ []) op → AreItsOwn (Command command ∷ others) op
own_alone command others op h own =
    subst (λ (cs : List Cycle). AreItsOwn (Command command ∷ cs) op) (sym (taken_end 1 others h)) own

-- one line of the table: the cycles say this operation, and are its own
own_line : (command : ℕ) (cycles others : List Cycle) (fault : Option CycleFault) (line said : Op) (rest : Result Op CycleFault) (number : ℕ) →
    ((command ≡ number) → fault ≡ None → AreItsOwn cycles line) →
    (rest ≡ Ok said → AreItsOwn cycles said) →
    cond (eqb command number) (unless_fault fault line) rest ≡ Ok said → AreItsOwn cycles said
own_line command cycles others fault line said rest number this later h =
    elim (eqb_tells command number) [
      | inl t ↦ (let now : unless_fault fault line ≡ Ok said = sym (cond-true (eqb command number) (unless_fault fault line) rest t.0) ∙ h in
          let was = only_without_fault fault line said now in
          subst (λ (op : Op). AreItsOwn cycles op) (sym was.1) (this t.1 was.0))
      | inr t ↦ later (sym (cond-false (eqb command number) (unless_fault fault line) rest t.0) ∙ h)
    ]

-- cycles that say an operation are its own
pub own : (cycles : List Cycle) (op : Op) → operation_of cycles ≡ Ok op → AreItsOwn cycles op
own [] op h = absurd (cc)
own (Address byte ∷ others) op h = absurd (cc)
own (Byte byte ∷ others) op h = absurd (cc)
own (Command command ∷ others) op h =
    let cycles = Command command ∷ others in
    own_line command cycles others _ _ op _ 0x00
    (λ e none. subst (λ (n : ℕ). AreItsOwn (Command n ∷ others) (Read (column_at (Command n ∷ others) 1) (row_at (Command n ∷ others) 3))) (sym e) (own_read others none))
    (own_line command cycles others _ _ op _ 0x80
    (λ e none. subst (λ (n : ℕ). AreItsOwn (Command n ∷ others) (Program (column_at (Command n ∷ others) 1) (row_at (Command n ∷ others) 3))) (sym e) (own_program others none))
    (own_line command cycles others _ _ op _ 0x60
    (λ e none. subst (λ (n : ℕ). AreItsOwn (Command n ∷ others) (Erase (row_at (Command n ∷ others) 1))) (sym e) (own_erase others none))
    (own_line command cycles others _ _ op _ 0x70
    (λ e none. own_alone command others Status none (subst (λ (n : ℕ). AreItsOwn (Command n ∷ []) Status) (sym e) (λ small. record { cycles_are = refl; row = tt; feature = tt; data_bytes = refl })))
    (own_line command cycles others _ _ op _ 0xFF
    (λ e none. own_alone command others Reset none (subst (λ (n : ℕ). AreItsOwn (Command n ∷ []) Reset) (sym e) (λ small. record { cycles_are = refl; row = tt; feature = tt; data_bytes = refl })))
    (own_line command cycles others _ _ op _ 0xEF
    (λ e none. subst (λ (n : ℕ). AreItsOwn (Command n ∷ others) (SetFeatures (value_at (Command n ∷ others) 1) (params_at (Command n ∷ others) 2))) (sym e) (own_set_features others none))
    (own_line command cycles others _ _ op _ 0xEE
    (λ e none. subst (λ (n : ℕ). AreItsOwn (Command n ∷ others) (GetFeatures (value_at (Command n ∷ others) 1))) (sym e) (own_get_features others none))
    (λ later. absurd (cc)))))))) h

-- the data bytes of the cycles of an operation are those that were sent
pub sent_bytes : (op : Op) (bytes : List ℕ) → HasItsBytes op bytes → bytes_of_op op (cycles_of op bytes) ≡ bytes
sent_bytes (Read column row) bytes h = sym h
sent_bytes (Program column row) [] h = absurd (omega arith)
sent_bytes (Program column row) (first ∷ others) h =
    bytes_of_program (column % 256) (column / 256) (row % 256) (row / 256 % 256) (row / 65536) first others
sent_bytes (Erase row) bytes h = sym h
sent_bytes Status bytes h = sym h
sent_bytes Reset bytes h = sym h
sent_bytes (SetFeatures address params) bytes h = sym h
sent_bytes (GetFeatures address) bytes h = sym h

-- no operation has more cycles than a program of its bytes
pub few_cycles : (op : Op) (bytes : List ℕ) → HasItsFeature op → length (cycles_of op bytes) ≤ length bytes + 7
few_cycles (Read column row) bytes f = omega arith
few_cycles (Program column row) bytes f = let data_length = length_of_data bytes in omega arith
few_cycles (Erase row) bytes f = omega arith
few_cycles Status bytes f = omega arith
few_cycles Reset bytes f = omega arith
few_cycles (SetFeatures address (p ∷ q ∷ r ∷ s ∷ [])) bytes f = omega arith
few_cycles (SetFeatures address params) bytes f = absurd (omega (arith, f.1))
few_cycles (GetFeatures address) bytes f = omega arith
