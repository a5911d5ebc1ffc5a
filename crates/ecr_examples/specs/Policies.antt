-- The reading of lifecycle policies at examples (Amazon ECR User Guide, lifecycle policies). Rules count from 1 in the
-- order of their list, and rule 0 stands for the text. Causes are of this registry: docs/PROTOCOL.md.
use Rattle.std.specs.Prelude.{◌≡◌, ℕ, zero, suc, true, false, List, [], ◌∷◌, ◌++◌, map, replicate, Option, None, Some, Ok, Err, codes, unwrap_or}
use Rattle.serde_json.specs.Data.{Data, null, number, unsigned, string, array, object, Items, no_items, item, member, no_members}
use Rattle.ecr_model.specs.declared.registry.lifecycle.Choose.{Choose}
use Rattle.ecr_model.specs.declared.registry.lifecycle.Choose.TheVariants.{Untagged, Any, Prefixes}
use Rattle.ecr_model.specs.declared.registry.lifecycle.Count.TheVariants.{MoreThan, OlderDays}
use Rattle.ecr_model.specs.declared.registry.lifecycle.Policy.{Policy}
use Rattle.ecr_model.specs.declared.registry.lifecycle.PolicyFault.{PolicyFault}
use Rattle.ecr_model.specs.declared.registry.lifecycle.Rule.{Rule}
use Rattle.ecr_model.specs.documents.Documents.{document}
use Rattle.ecr_model.specs.documents.Policies.{begins_character, characters, are_among, has_only, has, text_at, is_text_at, in_range, whole_at, cause_if, selection_of, selects_tagged, selects_untagged, selects_any, is_prefix, are_prefixes, number_of, texts_of, is_prefix_list, prefix_list, has_its_prefixes, counts_days, counts_images, has_its_unit, count_number, selection_members, selection_fault, choose_of, stated_count, rule_members, priority_of, is_described, is_action, rule_fault, rule_of, or_later, rules_fault, rules_of, is_any, is_untagged, is_subset, have_same_texts, clash, clashes_from, insert_rule, by_number, rules_in, has_length, has_number, text_cause_if, list_fault, policy_fault, policy_of, policy_or_fault, policy}

abbrev letters : ℕ → List ℕ
letters n = replicate n 97

abbrev count : ℕ → Data
count n = number (unsigned n)

abbrev text : List ℕ → Data
text t = string t

abbrev items : ℕ → Data → Items
items zero d = no_items
items (suc n) d = item d (items n d)

-- the JSON value of a text
abbrev json : List ℕ → Data
json t = unwrap_or (document t) null

-- `{"a": "x", "b": null, "c": 7}`
abbrev abc : Data
abc = object (member (codes "a") (text (codes "x")) (member (codes "b") null (member (codes "c") (count 7) no_members)))

-- texts count by characters; a member that is null is there
pub record ValuesAreRead : Type 0 where
  pub bytes : map begins_character (0 ∷ 127 ∷ 128 ∷ 191 ∷ 192 ∷ 244 ∷ [])
      ≡ true ∷ true ∷ false ∷ false ∷ true ∷ true ∷ []
  pub ascii : characters (codes "abc") ≡ 3
  -- an umlaut of two bytes, and a sign of four
  pub wide : characters (195 ∷ 164 ∷ 240 ∷ 159 ∷ 152 ∷ 128 ∷ []) ≡ 2
  pub all_among : are_among (codes "a" ∷ codes "b" ∷ []) (member (codes "b") null no_members) ≡ true
  pub not_among : are_among (codes "a" ∷ []) (member (codes "b") null no_members) ≡ false
  pub only : has_only (codes "a" ∷ codes "b" ∷ codes "c" ∷ codes "d" ∷ []) abc ≡ true
  pub not_only : has_only (codes "a" ∷ codes "b" ∷ []) abc ≡ false
  pub no_object : has_only [] (array no_items) ≡ false
  pub there : has (codes "b") abc ≡ true
  pub not_there : has (codes "d") abc ≡ false
  pub text_is : text_at (codes "a") abc ≡ Some (codes "x")
  pub no_text : text_at (codes "b") abc ≡ None
  pub is_text : is_text_at (codes "a") (codes "x") abc ≡ true
  pub other_text : is_text_at (codes "a") (codes "X") abc ≡ false
  pub range : map in_range (0 ∷ 1 ∷ 2147483647 ∷ 2147483648 ∷ []) ≡ None ∷ Some 1 ∷ Some 2147483647 ∷ None ∷ []
  pub whole_is : whole_at (codes "c") abc ≡ Some 7
  pub no_whole : whole_at (codes "a") abc ≡ None
  pub holds : cause_if 3 true ≡ Some 3
  pub not : cause_if 3 false ≡ None
  pub prefixes : map is_prefix (text (letters 1) ∷ text (letters 128) ∷ text [] ∷ text (letters 129) ∷ count 1 ∷ [])
      ≡ true ∷ true ∷ false ∷ false ∷ false ∷ []
  pub prefixes_all : are_prefixes (item (text (codes "v")) (item (text []) no_items)) ≡ false
  pub number : number_of (items 3 null) ≡ 3
  pub texts : texts_of (item (text (codes "v")) (item null (item (text (codes "w")) no_items)))
      ≡ codes "v" ∷ codes "w" ∷ []
  pub list_hundred : is_prefix_list (items 100 (text (codes "v"))) ≡ true
  pub list_long : is_prefix_list (items 101 (text (codes "v"))) ≡ false
  pub list_empty : is_prefix_list no_items ≡ false
  pub list_other : is_prefix_list (item null no_items) ≡ false

-- ten images of any tag
abbrev any : Data
any = json (codes "{\"tagStatus\":\"any\",\"countType\":\"imageCountMoreThan\",\"countNumber\":10}")

-- untagged images of fourteen days
abbrev untagged : Data
untagged = json (codes "{\"tagStatus\":\"untagged\",\"countType\":\"sinceImagePushed\",\"countUnit\":\"days\",\"countNumber\":14}")

-- five images of these prefixes
abbrev tagged : Data
tagged = json (codes "{\"tagStatus\":\"tagged\",\"tagPrefixList\":[\"v\",\"w\"],\"countType\":\"imageCountMoreThan\",\"countNumber\":5}")

-- a selection with these members
abbrev fault_of : List ℕ → Option ℕ
fault_of members = selection_fault (json (codes "{" ++ members ++ codes "}"))

-- a selection chooses and counts, and its first cause that holds is told
pub record SelectionsAreRead : Type 0 where
  pub members : selection_members
      ≡ codes "tagStatus" ∷ codes "tagPrefixList" ∷ codes "countType" ∷ codes "countUnit" ∷ codes "countNumber" ∷ []
  pub tagged_is : map selects_tagged (tagged ∷ untagged ∷ any ∷ []) ≡ true ∷ false ∷ false ∷ []
  pub untagged_is : map selects_untagged (tagged ∷ untagged ∷ any ∷ []) ≡ false ∷ true ∷ false ∷ []
  pub any_is : map selects_any (tagged ∷ untagged ∷ any ∷ []) ≡ false ∷ false ∷ true ∷ []
  pub list_is : prefix_list tagged ≡ Some (item (text (codes "v")) (item (text (codes "w")) no_items))
  pub no_list : prefix_list any ≡ None
  pub prefixes : map has_its_prefixes (tagged ∷ any ∷ json (codes "{\"tagStatus\":\"tagged\"}")
      ∷ json (codes "{\"tagStatus\":\"any\",\"tagPrefixList\":null}") ∷ [])
      ≡ true ∷ true ∷ false ∷ false ∷ []
  pub days : map counts_days (untagged ∷ any ∷ []) ≡ true ∷ false ∷ []
  pub images : map counts_images (untagged ∷ any ∷ []) ≡ false ∷ true ∷ []
  pub units : map has_its_unit (untagged ∷ any ∷ json (codes "{\"countType\":\"sinceImagePushed\"}")
      ∷ json (codes "{\"countType\":\"sinceImagePushed\",\"countUnit\":\"hours\"}")
      ∷ json (codes "{\"countType\":\"imageCountMoreThan\",\"countUnit\":\"days\"}") ∷ [])
      ≡ true ∷ true ∷ false ∷ false ∷ false ∷ []
  pub number : count_number untagged ≡ Some 14
  pub no_number : count_number (json (codes "{\"countNumber\":\"14\"}")) ≡ None
  pub sound : map selection_fault (any ∷ untagged ∷ tagged ∷ []) ≡ None ∷ None ∷ None ∷ []
  pub other_member : fault_of (codes "\"tagStatus\":\"all\",\"x\":1") ≡ Some 7
  pub no_object : selection_fault null ≡ Some 7
  pub other_status : fault_of (codes "\"tagStatus\":\"all\",\"tagPrefixList\":[]") ≡ Some 8
  pub no_prefixes : fault_of (codes "\"tagStatus\":\"tagged\",\"countType\":\"x\"") ≡ Some 9
  pub other_count : fault_of (codes "\"tagStatus\":\"any\",\"countType\":\"imageCount\",\"countUnit\":\"x\"") ≡ Some 10
  pub no_unit : fault_of (codes "\"tagStatus\":\"any\",\"countType\":\"sinceImagePushed\"") ≡ Some 11
  pub some_unit : fault_of (codes "\"tagStatus\":\"any\",\"countType\":\"imageCountMoreThan\",\"countUnit\":\"days\"")
      ≡ Some 11
  pub no_count : fault_of (codes "\"tagStatus\":\"any\",\"countType\":\"imageCountMoreThan\",\"countNumber\":0")
      ≡ Some 12
  pub chooses : map choose_of (tagged ∷ untagged ∷ any ∷ [])
      ≡ Prefixes (codes "v" ∷ codes "w" ∷ []) ∷ Untagged ∷ Any ∷ []
  pub counts : map stated_count (tagged ∷ untagged ∷ any ∷ []) ≡ MoreThan 5 ∷ OlderDays 14 ∷ MoreThan 10 ∷ []

-- rule 20, which is described
abbrev twenty : Data
twenty = json (codes "{\"rulePriority\":20,\"description\":\"old\",\"selection\":{\"tagStatus\":\"untagged\",\"countType\":\"sinceImagePushed\",\"countUnit\":\"days\",\"countNumber\":14},\"action\":{\"type\":\"expire\"}}")

-- the rule that it is
abbrev read_twenty : Rule
read_twenty = record { priority = 20; choose = Untagged; count = OlderDays 14 }

abbrev rule_fault_of : List ℕ → Option ℕ
rule_fault_of members = rule_fault (json (codes "{" ++ members ++ codes "}"))

-- a rule by itself, and the first cause that holds
pub record RulesAreRead : Type 0 where
  pub members : rule_members ≡ codes "rulePriority" ∷ codes "description" ∷ codes "selection" ∷ codes "action" ∷ []
  pub selection : selection_of twenty ≡ untagged
  pub no_selection : selection_of (object no_members) ≡ null
  pub number : priority_of twenty ≡ Some 20
  pub no_number : priority_of (json (codes "{\"rulePriority\":0}")) ≡ None
  pub descriptions : map is_described (twenty ∷ object no_members ∷ json (codes "{\"description\":null}") ∷ [])
      ≡ true ∷ true ∷ false ∷ []
  pub expires : is_action (Some (json (codes "{\"type\":\"expire\"}"))) ≡ true
  pub keeps : is_action (Some (json (codes "{\"type\":\"keep\"}"))) ≡ false
  pub expires_more : is_action (Some (json (codes "{\"type\":\"expire\",\"x\":1}"))) ≡ false
  pub no_action : is_action None ≡ false
  pub sound : rule_fault twenty ≡ None
  pub other_member : rule_fault_of (codes "\"rulePriority\":0,\"x\":1") ≡ Some 4
  pub bad_number : rule_fault_of (codes "\"rulePriority\":\"1\",\"description\":1") ≡ Some 5
  pub bad_text : rule_fault_of (codes "\"rulePriority\":1,\"description\":1") ≡ Some 6
  pub bad_selection : rule_fault_of (codes "\"rulePriority\":1,\"action\":1") ≡ Some 7
  pub bad_action : rule_fault_of (codes "\"rulePriority\":1,\"selection\":{\"tagStatus\":\"any\",\"countType\":\"imageCountMoreThan\",\"countNumber\":10},\"action\":{\"type\":\"expires\"}")
      ≡ Some 13
  pub read : rule_of twenty ≡ read_twenty

abbrev ruled : ℕ → Choose → Rule
ruled priority choose = record { priority = priority; choose = choose; count = MoreThan 1 }

abbrev at : ℕ → ℕ → Option PolicyFault
at rule cause = Some (record { rule = rule; cause = cause })

abbrev v_and_w : Choose
v_and_w = Prefixes (codes "v" ∷ codes "w" ∷ [])

-- the same texts in another order, one of them twice
abbrev w_and_v : Choose
w_and_v = Prefixes (codes "w" ∷ codes "v" ∷ codes "w" ∷ [])

abbrev only_v : Choose
only_v = Prefixes (codes "v" ∷ [])

-- rules beside each other: in order of their numbers, and the first one that doesn't go with others
pub record RulesAreCompared : Type 0 where
  pub later : or_later 2 None (at 3 4) ≡ at 3 4
  pub first : or_later 2 (Some 5) (at 3 4) ≡ at 2 5
  pub second : rules_fault 1 (item twenty (item null (item null no_items))) ≡ at 2 4
  pub none : rules_fault 1 (item twenty no_items) ≡ None
  pub all : rules_of (item twenty no_items) ≡ read_twenty ∷ []
  pub anys : map is_any (Untagged ∷ Any ∷ only_v ∷ []) ≡ false ∷ true ∷ false ∷ []
  pub untaggeds : map is_untagged (Untagged ∷ Any ∷ only_v ∷ []) ≡ true ∷ false ∷ false ∷ []
  pub subset : is_subset (codes "v" ∷ codes "v" ∷ []) (codes "w" ∷ codes "v" ∷ []) ≡ true
  pub no_subset : is_subset (codes "v" ∷ codes "x" ∷ []) (codes "w" ∷ codes "v" ∷ []) ≡ false
  pub same : have_same_texts v_and_w w_and_v ≡ true
  pub more_texts : have_same_texts v_and_w only_v ≡ false
  pub fewer_texts : have_same_texts only_v v_and_w ≡ false
  pub unlike : map (have_same_texts Untagged) (Untagged ∷ Any ∷ only_v ∷ []) ≡ false ∷ false ∷ false ∷ []
  pub unlike_too : map (have_same_texts Any) (Untagged ∷ Any ∷ only_v ∷ []) ≡ false ∷ false ∷ false ∷ []
  pub unlike_still : map (have_same_texts only_v) (Untagged ∷ Any ∷ []) ≡ false ∷ false ∷ []
  pub number_again : clash [] (ruled 1 Untagged ∷ []) (ruled 1 Untagged) ≡ Some 14
  pub any_first : clash (ruled 2 only_v ∷ ruled 1 Any ∷ []) [] (ruled 1 Any) ≡ Some 15
  pub any_last : clash (ruled 2 Any ∷ ruled 1 only_v ∷ []) [] (ruled 2 Any) ≡ None
  pub untagged_again : clash [] (ruled 1 Untagged ∷ []) (ruled 2 Untagged) ≡ Some 16
  pub texts_again : clash [] (ruled 1 v_and_w ∷ []) (ruled 2 w_and_v) ≡ Some 17
  pub any_again : clash [] (ruled 1 Any ∷ []) (ruled 2 Any) ≡ None
  pub third : clashes_from 1 [] [] (ruled 3 Untagged ∷ ruled 2 only_v ∷ ruled 1 Untagged ∷ []) ≡ at 3 16
  pub no_clash : clashes_from 1 [] [] (ruled 3 Untagged ∷ ruled 2 only_v ∷ []) ≡ None
  pub placed : insert_rule (ruled 2 Any) (ruled 1 Any ∷ ruled 3 Any ∷ []) ≡ ruled 1 Any ∷ ruled 2 Any ∷ ruled 3 Any ∷ []
  pub ordered : by_number (ruled 30 Any ∷ ruled 4 only_v ∷ ruled 5 Untagged ∷ [])
      ≡ ruled 4 only_v ∷ ruled 5 Untagged ∷ ruled 30 Any ∷ []

-- a whole policy of two rules, the later number first
abbrev whole : List ℕ
whole = codes "{\"rules\":[{\"rulePriority\":20,\"description\":\"old\",\"selection\":{\"tagStatus\":\"untagged\",\"countType\":\"sinceImagePushed\",\"countUnit\":\"days\",\"countNumber\":14},\"action\":{\"type\":\"expire\"}},{\"rulePriority\":3,\"selection\":{\"tagStatus\":\"tagged\",\"tagPrefixList\":[\"v\",\"w\"],\"countType\":\"imageCountMoreThan\",\"countNumber\":5},\"action\":{\"type\":\"expire\"}}]}"

abbrev read_whole : Policy
read_whole = record {
  text = whole;
  rules = record { priority = 3; choose = v_and_w; count = MoreThan 5 } ∷ read_twenty ∷ [];
}

abbrev spaced : ℕ → List ℕ → List ℕ
spaced n t = t ++ replicate n 32

-- a text of 100 to 30,720 characters is an object with 1 to 50 rules, which are kept in order of their numbers
pub record PoliciesAreRead : Type 0 where
  pub rules : rules_in (Some (json (codes "{\"rules\":[1]}"))) ≡ Some (item (count 1) no_items)
  pub more_members : rules_in (Some (json (codes "{\"rules\":[1],\"x\":1}"))) ≡ None
  pub no_rules : rules_in (Some (json (codes "{\"rules\":{}}"))) ≡ None
  pub no_json : rules_in None ≡ None
  pub lengths : map has_length (letters 99 ∷ letters 100 ∷ []) ≡ false ∷ true ∷ []
  pub numbers : map has_number (no_items ∷ items 1 null ∷ items 50 null ∷ items 51 null ∷ [])
      ≡ false ∷ true ∷ true ∷ false ∷ []
  pub holds : text_cause_if 2 true ≡ at 0 2
  pub not : text_cause_if 2 false ≡ None
  pub no_list : list_fault None ≡ at 0 2
  pub too_many : list_fault (Some (items 51 null)) ≡ at 0 3
  pub first_rule : list_fault (Some (items 50 null)) ≡ at 1 4
  pub twice : list_fault (Some (items 2 twenty)) ≡ at 2 14
  pub sound : list_fault (Some (item twenty no_items)) ≡ None
  pub short : policy_fault (codes "{\"rules\":[]}") ≡ at 0 1
  pub empty : policy_fault (spaced 90 (codes "{\"rules\":[]}")) ≡ at 0 3
  pub no_object : policy_fault (spaced 100 (codes "[]")) ≡ at 0 2
  pub made : policy_of whole (rules_in (document whole)) ≡ read_whole
  pub well : policy_or_fault None read_whole ≡ Ok read_whole
  pub ill : policy_or_fault (at 2 5) read_whole ≡ Err (record { rule = 2; cause = 5 })
  pub read : policy whole ≡ Ok read_whole
  pub unread : policy (spaced 100 whole ++ codes "x") ≡ Err (record { rule = 0; cause = 2 })
