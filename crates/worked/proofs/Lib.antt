mod Holds
