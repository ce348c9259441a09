-- A write that makes four rounds on four superblocks: the proofs of the examples of specs/RoundExamples.antt.
use Rattle.std.proofs.Common.{refl, arith}
use Rattle.ssd_histories.specs.SerialCalls.{erases, makes_room, picks, retires, takes, writes}
use Rattle.round_bounds.specs.RoundExamples.{GarbageIsLawful, GarbageIsSound, GarbageTakesFourRounds}

pub garbage_is_sound : GarbageIsSound
garbage_is_sound within = record
    { some_slots = omega arith; few = omega arith; one_frontier = omega arith; one_victim = omega arith; due = refl }

pub garbage_is_lawful : GarbageIsLawful
garbage_is_lawful within = (
  (
    (
      (
        (
          (
            (
              (
                tt,
                record {
                  in_range = refl;
                  meets = record { may_erase = record { is_victim = refl; no_live = refl; no_pin = refl }; none_weak = refl };
                },
              ),
              record { in_range = refl; meets = record { no_victim = refl; has_free = refl; is_candidate = refl } },
            ),
            record {
              in_range = refl;
              meets = record { may_erase = record { is_victim = refl; no_live = refl; no_pin = refl }; may_fail = refl };
            },
          ),
          record { in_range = refl; meets = record { no_victim = refl; has_free = refl; is_candidate = refl } },
        ),
        record {
          in_range = refl;
          meets = record { may_erase = record { is_victim = refl; no_live = refl; no_pin = refl }; may_fail = refl };
        },
      ),
      record { in_range = refl; meets = record { no_victim = refl; has_free = refl; is_candidate = refl } },
    ),
    record {
      in_range = refl;
      meets = record { may_erase = record { is_victim = refl; no_live = refl; no_pin = refl }; none_weak = refl };
    },
  ),
  record {
    in_range = refl;
    meets = record { has_room = refl; is_programmed = record { is_next = refl; none_weak = refl } };
  },
)

pub garbage_takes_four_rounds : GarbageTakesFourRounds
garbage_takes_four_rounds within = (
  makes_room refl (takes refl (erases refl refl)) refl
      (makes_room refl (picks refl (retires refl refl)) refl
      (makes_room refl (picks refl (retires refl refl)) refl
      (makes_room refl (picks refl (erases refl refl)) refl (writes refl)))),
  refl,
  refl,
)
