-- Changes of each kind.
use Rattle.std.proofs.Common.{zero, suc, ℕ, ◌≤◌, arith, lit≤}
use Rattle.bk_text.specs.Alphabets.{IsName, IsHost, IsSetName}
use Rattle.bk_text.specs.LevelPaths.{IsLevelPath}
use Rattle.bk_text.specs.declared.words.Alphabet.TheVariants.{Plain, Printable}
use Rattle.byte_formats.specs.declared.text.Text.TheVariants.{Name, Host, SetName}
use Rattle.byte_formats.specs.Formats.{both, one_in, any_four, text1_of, text2_of, any_of}
use Rattle.byte_formats.proofs.Leaves.{word_bounds}
use Rattle.budb_changes.specs.declared.version.Version.TheVariants.{One, Two}
use Rattle.budb_changes.specs.Printable.{IsPatternBytes}
use Rattle.budb_changes.specs.Formats.{expiry_form, dump_form, change_form, of_kind}
use Rattle.budb_changes.proofs.ChangeKinds.{entry, entry_1, entry_2, numbered, expiring, hosting, like_1, like_2, like_3, like_4, like_5, like_6, like_7, like_8, like_9, like_10, like_11, like_12, like_13, like_14, like_15, like_16, like_change}
use Rattle.log_readings.specs.Readers.{read_both, read_pair, read_one, read_two, read_four}
use Rattle.log_readings.specs.Texts.{read_word, read_text, read_text2, read_level, read_any}
use Rattle.log_readings.specs.Records.{read_expiry, read_dump}
use Rattle.log_readings.specs.Readings.{read_entry, read_fields, read_change}
use Rattle.log_readings.proofs.Answering.{Reads, reads_one, reads_like, reads_both, reads_pair}
use Rattle.log_readings.proofs.Numbers.{any_two, reads_any_two, reads_four}
use Rattle.log_readings.proofs.Stated.{reads_word2, reads_name, reads_host, reads_set, reads_level, reads_any}
use Rattle.log_readings.proofs.Parts.{reads_expiry, reads_dump}

reads_1 : Reads (of_kind 1) (read_fields 1)
unfolding read_fields like_1
reads_1 = reads_like (text1_of IsSetName) (of_kind 1) (read_text SetName) like_1 reads_set

reads_2 : Reads (of_kind 2) (read_fields 2)
unfolding read_fields like_2
reads_2 = reads_like (text1_of IsSetName) (of_kind 2) (read_text SetName) like_2 reads_set

reads_any_host : Reads (any_of IsHost) (read_any (read_text Host))
reads_any_host = reads_any IsHost (read_text Host) (λ text is. (word_bounds Plain 63 text is).0) reads_host

reads_any_name : Reads (any_of IsName) (read_any (read_text Name))
reads_any_name = reads_any IsName (read_text Name) (λ text is. (word_bounds Plain 31 text is).0) reads_name

reads_pattern : Reads (text2_of IsPatternBytes) (read_text2 1 128 (read_word Printable))
reads_pattern = reads_word2 Printable 128 (lit≤ tt) (lit≤ tt)

reads_3 : Reads (of_kind 3) (read_fields 3)
unfolding read_fields read_entry like_3
reads_3 =
    reads_like entry (of_kind 3) (read_pair (read_text SetName) (read_pair (read_any (read_text Host)) (read_pair (read_any (read_text Name)) (read_text2 1 128 (read_word Printable))))) like_3
    (reads_pair (text1_of IsSetName) entry_1 (read_text SetName) (read_pair (read_any (read_text Host)) (read_pair (read_any (read_text Name)) (read_text2 1 128 (read_word Printable)))) reads_set
    (reads_pair (any_of IsHost) entry_2 (read_any (read_text Host)) (read_pair (read_any (read_text Name)) (read_text2 1 128 (read_word Printable))) reads_any_host
    (reads_pair (any_of IsName) (text2_of IsPatternBytes) (read_any (read_text Name)) (read_text2 1 128 (read_word Printable)) reads_any_name reads_pattern)))

reads_4 : Reads (of_kind 4) (read_fields 4)
unfolding read_fields like_4
reads_4 = reads_like numbered (of_kind 4) (read_pair (read_text SetName) read_four) like_4 (reads_pair (text1_of IsSetName) any_four (read_text SetName) read_four reads_set reads_four)

reads_expiring : Reads expiring (read_pair read_level read_expiry)
reads_expiring = reads_pair (text2_of IsLevelPath) expiry_form read_level read_expiry reads_level reads_expiry

reads_5 : Reads (of_kind 5) (read_fields 5)
unfolding read_fields like_5
reads_5 = reads_like expiring (of_kind 5) (read_pair read_level read_expiry) like_5 reads_expiring

reads_6 : Reads (of_kind 6) (read_fields 6)
unfolding read_fields like_6
reads_6 = reads_like expiring (of_kind 6) (read_pair read_level read_expiry) like_6 reads_expiring

reads_7 : Reads (of_kind 7) (read_fields 7)
unfolding read_fields like_7
reads_7 = reads_like (text2_of IsLevelPath) (of_kind 7) read_level like_7 reads_level

reads_8 : Reads (of_kind 8) (read_fields 8)
unfolding read_fields like_8
reads_8 = reads_like hosting (of_kind 8) (read_pair (read_text Host) (read_two 0 65535)) like_8 (reads_pair (text1_of IsHost) any_two (read_text Host) (read_two 0 65535) reads_host reads_any_two)

reads_9 : Reads (of_kind 9) (read_fields 9)
unfolding read_fields like_9
reads_9 = reads_like any_two (of_kind 9) (read_two 0 65535) like_9 reads_any_two

reads_10 : Reads (of_kind 10) (read_fields 10)
unfolding read_fields like_10
reads_10 = reads_like any_four (of_kind 10) read_four like_10 reads_four

reads_11 : Reads (of_kind 11) (read_fields 11)
unfolding read_fields like_11
reads_11 = reads_like any_four (of_kind 11) read_four like_11 reads_four

reads_12 : Reads (of_kind 12) (read_fields 12)
unfolding read_fields like_12
reads_12 = reads_like (dump_form One) (of_kind 12) (read_dump One) like_12 (reads_dump One)

reads_13 : Reads (of_kind 13) (read_fields 13)
unfolding read_fields like_13
reads_13 = reads_like any_four (of_kind 13) read_four like_13 reads_four

reads_14 : Reads (of_kind 14) (read_fields 14)
unfolding read_fields like_14
reads_14 = reads_like (dump_form One) (of_kind 14) (read_dump One) like_14 (reads_dump One)

reads_15 : Reads (of_kind 15) (read_fields 15)
unfolding read_fields like_15
reads_15 = reads_like (dump_form Two) (of_kind 15) (read_dump Two) like_15 (reads_dump Two)

reads_16 : Reads (of_kind 16) (read_fields 16)
unfolding read_fields like_16
reads_16 = reads_like (dump_form Two) (of_kind 16) (read_dump Two) like_16 (reads_dump Two)

reads_kind : (k : ℕ) → (1 ≤ k) × (k ≤ 16) → Reads (of_kind k) (read_fields k)
reads_kind zero is = absurd (omega (arith, is.0))
reads_kind (suc zero) is = reads_1
reads_kind (suc (suc zero)) is = reads_2
reads_kind (suc (suc (suc zero))) is = reads_3
reads_kind (suc (suc (suc (suc zero)))) is = reads_4
reads_kind (suc (suc (suc (suc (suc zero))))) is = reads_5
reads_kind (suc (suc (suc (suc (suc (suc zero)))))) is = reads_6
reads_kind (suc (suc (suc (suc (suc (suc (suc zero))))))) is = reads_7
reads_kind (suc (suc (suc (suc (suc (suc (suc (suc zero)))))))) is = reads_8
reads_kind (suc (suc (suc (suc (suc (suc (suc (suc (suc zero))))))))) is = reads_9
reads_kind (suc (suc (suc (suc (suc (suc (suc (suc (suc (suc zero)))))))))) is = reads_10
reads_kind (suc (suc (suc (suc (suc (suc (suc (suc (suc (suc (suc zero))))))))))) is = reads_11
reads_kind (suc (suc (suc (suc (suc (suc (suc (suc (suc (suc (suc (suc zero)))))))))))) is = reads_12
reads_kind (suc (suc (suc (suc (suc (suc (suc (suc (suc (suc (suc (suc (suc zero))))))))))))) is = reads_13
reads_kind (suc (suc (suc (suc (suc (suc (suc (suc (suc (suc (suc (suc (suc (suc zero)))))))))))))) is = reads_14
reads_kind (suc (suc (suc (suc (suc (suc (suc (suc (suc (suc (suc (suc (suc (suc (suc zero))))))))))))))) is = reads_15
reads_kind (suc (suc (suc (suc (suc (suc (suc (suc (suc (suc (suc (suc (suc (suc (suc (suc zero)))))))))))))))) is = reads_16
reads_kind (suc (suc (suc (suc (suc (suc (suc (suc (suc (suc (suc (suc (suc (suc (suc (suc (suc k))))))))))))))))) is = absurd (omega (arith, is.1))

pub reads_change : Reads change_form read_change
unfolding read_change like_change
reads_change =
    reads_like (both (one_in 1 16) of_kind) change_form (read_both (read_one 1 16) read_fields) like_change
    (reads_both (one_in 1 16) of_kind (read_one 1 16) read_fields (reads_one 1 16 (lit≤ tt)) reads_kind)
