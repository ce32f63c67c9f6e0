-- What fits in the tables behind a method's code, by the sizes that they can have.
use Rattle.std.proofs.Common.{◌≡◌, ◌↔◌, ℕ, ◌+◌, ◌-◌, ◌*◌, ◌^◌, ◌<◌, ◌≤◌, true, refl, inl, inr, arith}
use Rattle.std.proofs.lemmas.Bool.{cases_lt}
use Rattle.wv_room.specs.Tables.{TablesFill}
use Rattle.wv_room.proofs.TableSizes.{reached, spelled}
use Rattle.wv_code.specs.Reading.{code_fits, ranges_fit, attributes_fit}
use Rattle.wv_code.proofs.Rooms.{fit_is, is_fit, ranged_is, is_ranged, coded_is, is_coded}

-- code of so many bytes, and both tables
pub code_allows : (room n : ℕ) → room < 2 ^ 32 → TablesFill (0 + n) 0 1 1 room ↔ (code_fits room n ≡ true)
code_allows room n small = (
  λ fill.
      let r = reached fill in
      is_coded room n (record {
        more = r.more + 4;
        sum = omega (arith, r.size);
        tables = record {
          is = elim (cases_lt 0 r.more) [
            | inl some ↦ let six : 6 ≤ r.more = r.takes.gap refl some in inr (omega (arith, six), omega (arith, r.size, small))
            | inr none ↦ inl (omega (arith, none))
          ];
        };
      }),
  λ e.
      let c = coded_is room n e in
      spelled small (record {
        more = room - (n + 4);
        size = elim c.tables.is [
          | inl four ↦ omega (arith, c.sum, four)
          | inr more ↦ omega (arith, c.sum, more.0)
        ];
        takes = record {
          gap = λ a some. elim c.tables.is [
            | inl four ↦ absurd (omega (arith, c.sum, four, some))
            | inr more ↦ omega (arith, c.sum, more.0)
          ];
          eights = λ a. absurd (omega (arith, a));
          most = λ a. absurd (omega (arith, a));
        };
      }),
)

-- so many ranges, and the table of attributes
pub ranges_allow : (room n : ℕ) → room < 2 ^ 32 → TablesFill (0 + 8 * n) 0 1 0 room ↔ (ranges_fit room n ≡ true)
ranges_allow room n small = (
  λ fill.
      let r = reached fill in
      is_ranged room n (record {
        more = r.more + 2;
        sum = omega (arith, r.size);
        table = record {
          is = elim (cases_lt 0 r.more) [
            | inl some ↦ let six : 6 ≤ r.more = r.takes.gap refl some in inr (omega (arith, six), omega (arith, r.size, small))
            | inr none ↦ inl (omega (arith, none))
          ];
        };
      }),
  λ e.
      let c = ranged_is room n e in
      spelled small (record {
        more = room - (8 * n + 2);
        size = elim c.table.is [
          | inl two ↦ omega (arith, c.sum, two)
          | inr more ↦ omega (arith, c.sum, more.0)
        ];
        takes = record {
          gap = λ a some. elim c.table.is [
            | inl two ↦ absurd (omega (arith, c.sum, two, some))
            | inr more ↦ omega (arith, c.sum, more.0)
          ];
          eights = λ a. absurd (omega (arith, a));
          most = λ a. absurd (omega (arith, a));
        };
      }),
)

-- so many attributes
pub attributes_allow : (room n : ℕ) → room < 2 ^ 32 → TablesFill 0 (0 + n) 0 0 room ↔ (attributes_fit room n ≡ true)
attributes_allow room n small = (
  λ fill.
      let r = reached fill in
      is_fit room n (record {
        least = omega (arith, r.size);
        most = elim (cases_lt 0 n) [
          | inl some ↦ omega (arith, small, some)
          | inr none ↦ let a : 0 + n + 0 ≡ 0 = omega (arith, none) in omega (arith, r.size, r.takes.eights a, r.takes.most a, none)
        ];
      }),
  λ e.
      let f = fit_is room n e in
      spelled small (record {
        more = room - 6 * n;
        size = omega (arith, f.least);
        takes = record {
          gap = λ a some. absurd (omega (arith, f.most, a, some));
          eights = λ a. omega (arith, f.most, a);
          most = λ a. omega (arith, f.most, a);
        };
      }),
)
